-- Lists of which at most one element passes a test, or none.
use Rattle.std.proofs.Common.{◌≡◌, ℕ, ◌+◌, ◌≤◌, Bool, true, false, cond, ◌||◌, List, [], ◌∷◌, count_by, refl, sym, ap, ◌∙◌, arith, le_trans, le_of_eq}
use Rattle.std.specs.List.{list_any}
use Rattle.std.proofs.lemmas.Bool.{false≢true}
use Rattle.std.proofs.lemmas.List.Sums.{sum_by-cons}

module _ {A : Type 0} (t : A → Bool) where
  pub count-cons : (x : A) (xs : List A) → count_by t (x ∷ xs) ≡ cond {A = ℕ} (t x) 1 0 + count_by t xs
  count-cons x xs = sum_by-cons (λ y. cond (t y) 1 0) x xs

  -- none: the first fails, and none of the rest passes
  pub none-cons : (x : A) (xs : List A) → count_by t (x ∷ xs) ≡ 0 → (t x ≡ false) × (count_by t xs ≡ 0)
  none-cons x xs none = by (t x) refl (sym (count-cons x xs) ∙ none)
    where
      by : (b : Bool) → t x ≡ b → cond {A = ℕ} b 1 0 + count_by t xs ≡ 0 → (t x ≡ false) × (count_by t xs ≡ 0)
      by true is none = absurd (omega (arith, none))
      by false is none = (is, omega (arith, none))

  -- at most one: no more of the rest, and none where the first passes
  pub one-cons : (x : A) (xs : List A) → count_by t (x ∷ xs) ≤ 1 → (count_by t xs ≤ 1) × (t x ≡ true → count_by t xs ≡ 0)
  one-cons x xs one = by (t x) (le_trans (le_of_eq (sym (count-cons x xs))) one)
    where
      by : (b : Bool) → cond {A = ℕ} b 1 0 + count_by t xs ≤ 1 → (count_by t xs ≤ 1) × (b ≡ true → count_by t xs ≡ 0)
      by true one = (omega (arith, one), λ is. omega (arith, one))
      by false one = (omega (arith, one), λ is. absurd (false≢true is))

  -- what passes is counted
  pub none_of_count : (xs : List A) → count_by t xs ≡ 0 → list_any t xs ≡ false
  none_of_count [] none = refl
  none_of_count (x ∷ xs) none = let parts = none-cons x xs none in ap (λ b. b || list_any t xs) parts.0 ∙ none_of_count xs parts.1
