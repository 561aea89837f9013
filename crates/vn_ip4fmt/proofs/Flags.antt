-- A bit that a mask finds.
use Rattle.std.proofs.Common.{◌≡◌, ◌≢◌, ◌==◌, ℕ, zero, suc, ◌/◌, ◌%◌, ◌^◌, ◌<◌, not, bit_and, refl, sym, ◌∙◌, arith}
use Rattle.std.proofs.lemmas.Nat.{and_mask, bit_set_by_shift}

same : (x y : ℕ) → y < 2 → (y ≡ 1 → x ≢ 0) → (x ≢ 0 → y ≡ 1) → not (x == 0) ≡ (y == 1)
same zero zero small some one = refl
same zero (suc y) small some one = absurd (some (omega arith) refl)
same (suc x) y small some one = let is : y ≡ 1 = one (λ e. omega arith) in grind arith

pub flag : (n k : ℕ) → not (bit_and n (2 ^ k) == 0) ≡ (n / 2 ^ k % 2 == 1)
flag n k =
    let low = and_mask (n / 2 ^ k) 1 in
    let set = bit_set_by_shift n k in
    same (bit_and n (2 ^ k)) (n / 2 ^ k % 2) (omega arith) (λ one. set.0 (low ∙ one)) (λ some. sym low ∙ set.1 some)
