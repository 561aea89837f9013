use Rattle.std.proofs.Common.{◌≡◌, [], cond, Some, None, IsSome, unwrap_or, subst, sym, ap, ap₂, ◌∙◌}
use Rattle.std.specs.BTreeMap.{is_at}
use Rattle.vn_epair.specs.Halves.{Pair}
use Rattle.vn_epair.specs.Pairs.{new_pair, of, pair_of}
use Rattle.vn_epair.specs.Kept.{name_cmp, told}
use Rattle.vn_epair.proofs.Keeps.{read}
use Rattle.vn_epair.proofs.Names.{kept-gone}
use Rattle.vn_epair.proofs.pairs.Pairs.forget.Goals as goal

pub invariant_of-self : goal.invariant_of-self
invariant_of-self c =
    let some : IsSome (of c.self.inside.rows.items c.args.pair) = subst (λ ps. IsSome (of ps c.args.pair)) (sym c.self.view_is) c.requires.exists in
    let was : of c.self.inside.rows.items c.args.pair ≡ Some c.in-Some.row = read c.self.inside.rows.items c.args.pair c.index_mut.result.now c.in-Some.row some c.index_mut.ensures.value (sym c.take.ensures.value ∙ c.in-Some.is) in
    let row : pair_of c.args.self.now c.args.pair ≡ c.in-Some.row = ap (λ ps. pair_of ps c.args.pair) (sym c.self.view_is) ∙ ap (λ o. unwrap_or o (new_pair 0 0)) was in
    let a : c.in-Some.row.a.sent ≡ [] = sym (ap (λ (p : Pair). p.a.sent) (c.requires.empty ∙ row)) in
    let b : c.in-Some.row.b.sent ≡ [] = sym (ap (λ (p : Pair). p.b.sent) (c.requires.empty ∙ row)) in
    rw c.take.ensures.after
    (kept-gone c.self.inside.rows.items c.self.inside.names c.remove.new.self c.self.inside.line c.release.new.self c.self.invariant c.args.pair c.in-Some.row was a b
    (λ k. c.remove.ensures k ∙ ap₂ (λ h u. cond (is_at (name_cmp (h, u)) k) None (told c.self.inside.names k)) c.home.ensures c.unit.ensures)
    c.release.ensures.listed c.release.ensures.room)
