use Rattle.std.proofs.Common.{◌≡◌, true, List, Option, IfSome, subst, sym}
use Rattle.vn_epair.specs.Halves.{Pair}
use Rattle.vn_epair.specs.Pairs.{is_named, of}
use Rattle.vn_epair.proofs.pairs.Pairs.find.Goals as goal

pub returns-clause-found : goal.returns-clause-found
returns-clause-found c =
    subst (λ (ps : List (Option Pair)). IfSome c.number.result (λ n. is_named c.args.home.0 c.args.unit (of ps n) ≡ true)) c.self.view_is
    (subst (λ o. IfSome o (λ n. is_named c.args.home.0 c.args.unit (of c.self.inside.rows.items n) ≡ true)) (sym c.number.ensures) (c.self.invariant.standing (c.args.home.0, c.args.unit)))
