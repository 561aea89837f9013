use Rattle.std.proofs.Common.{◌≡◌, ◌∙◌, ℕ, ◌+◌, List, Option, take, drop, sym, subst, arith, length-drop, length-take}
use Rattle.std.proofs.Math.Seq.{take-add}
use Rattle.std.proofs.lemmas.List.{take_rest}
use Rattle.std.proofs.KnownBytes.{Appends-trans}
use Rattle.std.specs.Io.KnownBytes.{Appends}
use Rattle.vn_io.proofs.whole.write_all.Goals as goal

-- what was written, and then the front of the rest
Appends-next : (a b c : Option (List ℕ)) (octets rest : List ℕ) (done taken : ℕ) → rest ≡ drop done octets → Appends a b (take done octets) → Appends b c (take taken rest)
    → Appends a c (take (done + taken) octets)
Appends-next a b c octets rest done taken is_rest before now =
    subst (Appends a c) (sym (take-add done taken octets)) (Appends-trans a b c _ _ before (subst (λ r. Appends b c (take taken r)) is_rest now))

pub loop-done-preserved : goal.loop-done-preserved
loop-done-preserved g c = record {
  given = Appends-next _ _ _ _ _ c.loop-done.done c.in-Count.taken (take_rest c.args.octets.now c.loop-done.done) c.loop-done.invariant.given c.in-Count.ensures.octets;
  few = omega (arith, c.in-Count.ensures.within, length-take {A = ℕ}, length-drop {A = ℕ});
  counted = c.in-Count.ensures.counted ∙ c.loop-done.invariant.counted;
}
