-- Whether some element of a list passes a test.
use Rattle.std.proofs.Common.{◌≡◌, ℕ, ◌<◌, Bool, true, false, ◌&&◌, ◌||◌, List, [], ◌∷◌, length, get_or, refl, sym, ap₂}
use Rattle.std.specs.List.{list_any, insert, remove}
use Rattle.std.proofs.lemmas.Bool.{or_parts, or_from, false≢true}
use Rattle.std.proofs.lemmas.List.Sorted.{IsPermutation-insert, IsPermutation-remove, list_any-IsPermutation}

module _ {X : Type 0} where
  pub any-insert : (test : X → Bool) (xs : List X) (i : ℕ) (y : X) → list_any test (insert xs i y) ≡ (test y || list_any test xs)
  any-insert test xs i y = sym (list_any-IsPermutation test (y ∷ xs) (insert xs i y) (IsPermutation-insert xs i y))

  pub any-remove : (test : X → Bool) (xs : List X) (i : ℕ) (x : X) → i < length xs → x ≡ get_or xs i x → list_any test xs ≡ (test x || list_any test (remove xs i))
  any-remove test xs i x in' is = list_any-IsPermutation test xs (x ∷ remove xs i) (IsPermutation-remove xs i x in' is)

  -- tests that agree where a third fails
  pub any-agree : (p q bad : X → Bool) (xs : List X) → list_any bad xs ≡ false → ((x : X) → bad x ≡ false → p x ≡ q x) → list_any p xs ≡ list_any q xs
  any-agree p q bad [] none agree = refl
  any-agree p q bad (x ∷ xs) none agree =
      let parts : (bad x ≡ false) × (list_any bad xs ≡ false) = or_parts (bad x) (list_any bad xs) none in
      ap₂ (λ a b. a || b) (agree x parts.0) (any-agree p q bad xs parts.1 agree)

  pub any-never : (xs : List X) → list_any (λ _. false) xs ≡ false
  any-never [] = refl
  any-never (x ∷ xs) = any-never xs

  -- no element passes a test where none passes a weaker one
  pub any-both : (p q : X → Bool) (xs : List X) → list_any p xs ≡ false → list_any (λ x. p x && q x) xs ≡ false
  any-both p q [] none = refl
  any-both p q (x ∷ xs) none = by (p x) (q x) (or_parts (p x) (list_any p xs) none).0 (any-both p q xs (or_parts (p x) (list_any p xs) none).1)
    where
      by : (a b : Bool) → a ≡ false → list_any (λ x. p x && q x) xs ≡ false → ((a && b) || list_any (λ x. p x && q x) xs) ≡ false
      by true b e more = absurd (false≢true (sym e))
      by false b e more = more

  pub any-or : (p q : X → Bool) (xs : List X) → list_any p xs ≡ false → list_any q xs ≡ false → list_any (λ x. p x || q x) xs ≡ false
  any-or p q [] no-p no-q = refl
  any-or p q (x ∷ xs) no-p no-q =
      let a = or_parts (p x) (list_any p xs) no-p in
      let b = or_parts (q x) (list_any q xs) no-q in
      or_from (p x || q x) (list_any (λ x. p x || q x) xs) (or_from (p x) (q x) a.0 b.0) (any-or p q xs a.1 b.1)
