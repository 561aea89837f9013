use Rattle.std.proofs.Common.{◌≡◌, Some, IsSome, refl, subst, sym}
use Rattle.vn_epair.specs.Pairs.{of}
use Rattle.vn_epair.proofs.Keeps.{kept-end, read}
use Rattle.vn_epair.proofs.pairs.Pairs.set_stands.Goals as goal

pub invariant_of-self : goal.invariant_of-self
invariant_of-self c =
    let some : IsSome (of c.self.inside.rows.items c.args.half.pair) = subst (λ ps. IsSome (of ps c.args.half.pair)) (sym c.self.view_is) c.requires in
    let was : of c.self.inside.rows.items c.args.half.pair ≡ Some c.in-Some.row = read c.self.inside.rows.items c.args.half.pair c.index_mut.result.now c.in-Some.row some c.index_mut.ensures.value c.in-Some.is in
    kept-end c.self.inside.rows.items _ c.self.inside.names c.self.inside.line c.args.half.pair c.in-Some.row c.set_place.new.self was refl c.self.invariant c.args.half.side _ c.set_place.ensures refl
