use Rattle.std.proofs.Common.{◌≡◌, ◌<◌, false, ◌==◌, ◌&&◌, List, Option, get_or, arith, subst, sym, ap, ◌∙◌, ⊎_elim}
use Rattle.std.specs.Prelude.{nat_lt}
use Rattle.std.specs.List.{list_any}
use Rattle.std.proofs.lemmas.Bool.{cases_lt}
use Rattle.std.proofs.lemmas.List.{get_or_default}
use Rattle.vn_types.specs.declared.interface.Sid.{Sid}
use Rattle.vn_epair.specs.declared.line.Awaited.{Awaited}
use Rattle.vn_epair.specs.Halves.{Pair}
use Rattle.vn_epair.specs.Pairs.{IsAllQuiet, IsNextQueued}
use Rattle.vn_epair.specs.Line.{rank}
use Rattle.vn_epair.proofs.Next.{next-is, quiet-home, units-listed}
use Rattle.vn_epair.proofs.pairs.Pairs.next_queued.Goals as goal

pub first_of-requires : goal.first_of-requires
first_of-requires c = units-listed c.self.inside.rows.items c.self.inside.names c.self.inside.line c.self.invariant

pub returns-in-Some-clause-next : goal.returns-in-Some-clause-next
returns-in-Some-clause-next c =
    let first : list_any (λ (e : Awaited). (e.home.0 == c.in-Some.first.home.0) && nat_lt (rank e) (rank c.in-Some.first)) c.self.inside.line.listed ≡ false =
    subst (λ (h : Sid). list_any (λ (e : Awaited). (e.home.0 == h.0) && nat_lt (rank e) (rank c.in-Some.first)) c.self.inside.line.listed ≡ false) (sym c.in-Some.ensures.home) c.in-Some.ensures.first in
    subst (λ (ps : List (Option Pair)). IsNextQueued c.args.order.now ps c.in-Some.first.half) c.self.view_is
    (next-is c.self.inside.rows.items c.self.inside.names c.self.inside.line c.self.invariant c.args.order.now c.loop-home.home-index c.in-Some.first c.loop-home-test.true
    (λ d. get_or_default c.args.order.now c.loop-home.home-index d _ c.loop-home-test.true ∙ sym c.in-Some.ensures.home)
    c.loop-home.invariant c.in-Some.ensures.listed first)

pub loop-home-preserved : goal.loop-home-preserved
loop-home-preserved c = λ k d lt.
    ⊎_elim (λ (below : k < c.loop-home.home-index). c.loop-home.invariant k d below)
    (λ le.
    let at : k ≡ c.loop-home.home-index = omega arith in
    ap (λ i. list_any (λ (e : Awaited). e.home.0 == (get_or c.args.order.now i d).0) c.self.inside.line.listed) at
    ∙ ap (λ (h : Sid). list_any (λ (e : Awaited). e.home.0 == h.0) c.self.inside.line.listed) (get_or_default c.args.order.now c.loop-home.home-index d _ c.loop-home-test.true)
    ∙ c.in_default.ensures.none)
    (cases_lt k c.loop-home.home-index)

pub returns-clause-none : goal.returns-clause-none
returns-clause-none c =
    subst (λ (ps : List (Option Pair)). IsAllQuiet c.args.order.now ps) c.self.view_is
    (λ half waits k d within. quiet-home c.self.inside.rows.items c.self.inside.names c.self.inside.line c.self.invariant (get_or c.args.order.now k d).0 (c.loop-home.invariant k d (omega arith)) half waits)
