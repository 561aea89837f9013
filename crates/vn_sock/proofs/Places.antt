-- A socket is found at a place, and changed there.
use Rattle.std.proofs.Common.{◌≡◌, ℕ, zero, suc, ◌<◌, ◌+◌, Bool, true, false, cond, not, ◌&&◌, ◌||◌, List, [], ◌∷◌, length, map, get_or, set, Some, None, refl, sym, ap, ◌∙◌, arith, nat_lt}
use Rattle.std.specs.Prelude.{slice_get}
use Rattle.std.specs.List.{list_any, filter, find, position, position_or_len}
use Rattle.std.specs.Option.{unwrap_or}
use Rattle.std.proofs.lemmas.Bool.{and_parts, and_from, not-true, ltb-true, ltb-false}
use Rattle.std.proofs.lemmas.List.Folds.{find_at}
use Rattle.std.proofs.lemmas.Option.{slice_get_past}
use Rattle.vn_rules.specs.Orders.{are_distinct}
use Rattle.vn_rules.proofs.ListTests.{both_pass, none_weaker, unchanged}

module _ {A : Type 0} (test : A → Bool) where
  -- a place is the first at which the test passes, and within
  pub record IsPlace (xs : List A) (k : ℕ) : Type 0 where
    pub first : k ≡ position_or_len test xs
    pub within : k < length xs

  pub place-is : (xs : List A) (k : ℕ) → Some k ≡ position test xs → IsPlace xs k
  place-is xs k is = by (nat_lt (position_or_len test xs) (length xs)) refl is
    where
      by : (b : Bool) → nat_lt (position_or_len test xs) (length xs) ≡ b → Some k ≡ cond b (Some (position_or_len test xs)) None → IsPlace xs k
      by true less is =
          let at : k ≡ position_or_len test xs = ap (λ o. unwrap_or o k) is in
          record { first = at; within = rw at (ltb-true _ _ less) }
      by false not_less is = absurd (cc)

  -- what stands there is what is found
  pub found-at : (xs : List A) (k : ℕ) → Some k ≡ position test xs → slice_get xs k ≡ find test xs
  found-at xs k is = ap (slice_get xs) (IsPlace.first (place-is xs k is)) ∙ sym (find_at test xs)

  -- where there is no place, nothing is found
  pub not-found : (xs : List A) → None ≡ position test xs → find test xs ≡ None
  not-found xs is = by (nat_lt (position_or_len test xs) (length xs)) refl is
    where
      by : (b : Bool) → nat_lt (position_or_len test xs) (length xs) ≡ b → None ≡ cond b (Some (position_or_len test xs)) None → find test xs ≡ None
      by true less is = absurd (cc)
      by false not_less is = find_at test xs ∙ slice_get_past xs (position_or_len test xs) (ltb-false _ _ not_less)

  edited : (f : A → A) (xs : List A) (d : A) → are_distinct (both_pass test) xs ≡ true → position_or_len test xs < length xs
      → set xs (position_or_len test xs) (f (get_or xs (position_or_len test xs) d)) ≡ map (λ x. cond (test x) (f x) x) xs
  edited f [] d one less = absurd (omega arith)
  edited f (x ∷ xs) d one less =
      let parts = and_parts (not (list_any (both_pass test x) xs)) _ one in
      by (test x) refl less (not-true _ parts.0) (edited f xs d parts.1)
    where
      by : (b : Bool) → test x ≡ b → cond (not b) (1 + position_or_len test xs) 0 < suc (length xs) → list_any (both_pass test x) xs ≡ false
          → (position_or_len test xs < length xs → set xs (position_or_len test xs) (f (get_or xs (position_or_len test xs) d)) ≡ map (λ x. cond (test x) (f x) x) xs)
          → set (x ∷ xs) (cond (not b) (1 + position_or_len test xs) 0) (f (get_or (x ∷ xs) (cond (not b) (1 + position_or_len test xs) 0) d)) ≡ cond b (f x) x ∷ map (λ x. cond (test x) (f x) x) xs
      by true is less none more = ap (λ ys. f x ∷ ys) (sym (unchanged test f xs (none_weaker test (both_pass test x) (λ y passes. and_from (test x) (test y) is passes) xs none)))
      by false is less none more =
          let next : 1 + position_or_len test xs ≡ suc (position_or_len test xs) = omega arith in
          rw next (ap (λ ys. x ∷ ys) (more (omega arith)))

  -- to change what stands at the place is to change what passes, where no two pass
  pub edited-at : (f : A → A) (xs : List A) (k : ℕ) (d : A) → are_distinct (both_pass test) xs ≡ true → Some k ≡ position test xs
      → set xs k (f (get_or xs k d)) ≡ map (λ x. cond (test x) (f x) x) xs
  edited-at f xs k d one is =
      let place = place-is xs k is in
      ap (λ i. set xs i (f (get_or xs i d))) place.first ∙ edited f xs d one (rw (sym place.first) place.within)

-- within a list something stands
pub stands : {A : Type 0} (xs : List A) (k : ℕ) → k < length xs → slice_get xs k ≡ None → ⊥
stands [] k less none = absurd (omega arith)
stands (x ∷ xs) zero less none = absurd (cc)
stands (x ∷ xs) (suc k) less none = stands xs k (omega arith) none

-- a test of what is kept
pub any-filter : {A : Type 0} (keep test : A → Bool) (xs : List A) → list_any test (filter keep xs) ≡ list_any (λ x. keep x && test x) xs
any-filter keep test [] = refl
any-filter keep test (x ∷ xs) = by (keep x) (any-filter keep test xs)
  where
    by : (b : Bool) → list_any test (filter keep xs) ≡ list_any (λ x. keep x && test x) xs
        → list_any test (cond b (x ∷ filter keep xs) (filter keep xs)) ≡ ((b && test x) || list_any (λ x. keep x && test x) xs)
    by true rest = ap (λ b. test x || b) rest
    by false rest = rest
