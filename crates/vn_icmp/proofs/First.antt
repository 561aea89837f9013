-- The first element that passes a test, by its place.
use Rattle.std.proofs.Common.{◌≡◌, ℕ, suc, ◌+◌, ◌<◌, ◌≤◌, Bool, true, false, cond, not, nat_lt, List, [], ◌∷◌, length, get_or, Some, None, refl, ap, arith}
use Rattle.std.specs.List.{find, position, position_or_len, remove}
use Rattle.std.specs.Option.{unwrap_or}
use Rattle.std.proofs.lemmas.Bool.{ltb-true, ltb-false}
use Rattle.vn_rules.specs.declared.ping.PingOf.{PingOf}
use Rattle.vn_rules.specs.Pings.{without_first}

module _ {N : Type 0} (test : PingOf N → Bool) where
  abbrev Pings : Type 0
  Pings = List (PingOf N)

  within : (xs : Pings) (d : PingOf N) → position_or_len test xs < length xs
      → (Some (get_or xs (position_or_len test xs) d) ≡ find test xs) × (remove xs (position_or_len test xs) ≡ without_first test xs)
  within [] d less = absurd (omega arith)
  within (x ∷ xs) d less = by (test x) less (within xs d)
    where
      by : (b : Bool) → cond (not b) (1 + position_or_len test xs) 0 < suc (length xs)
          → (position_or_len test xs < length xs → (Some (get_or xs (position_or_len test xs) d) ≡ find test xs) × (remove xs (position_or_len test xs) ≡ without_first test xs))
          → (Some (get_or (x ∷ xs) (cond (not b) (1 + position_or_len test xs) 0) d) ≡ cond b (Some x) (find test xs))
          × (remove (x ∷ xs) (cond (not b) (1 + position_or_len test xs) 0) ≡ cond b xs (x ∷ without_first test xs))
      by true less more = (refl, refl)
      by false less more =
          let rest = more (omega arith) in
          let next : 1 + position_or_len test xs ≡ suc (position_or_len test xs) = omega arith in
          rw next (rest.0, ap (λ ys. x ∷ ys) rest.1)

  past : (xs : Pings) → length xs ≤ position_or_len test xs → (find test xs ≡ None) × (without_first test xs ≡ xs)
  past [] le = (refl, refl)
  past (x ∷ xs) le = by (test x) le (past xs)
    where
      by : (b : Bool) → suc (length xs) ≤ cond (not b) (1 + position_or_len test xs) 0 → (length xs ≤ position_or_len test xs → (find test xs ≡ None) × (without_first test xs ≡ xs))
          → (cond b (Some x) (find test xs) ≡ None) × (cond b xs (x ∷ without_first test xs) ≡ x ∷ xs)
      by true le more = absurd (omega arith)
      by false le more = let rest = more (omega arith) in (rest.0, ap (λ ys. x ∷ ys) rest.1)

  -- where there is a place, the element there is the first
  pub first-at : (xs : Pings) (k : ℕ) (d : PingOf N) → Some k ≡ position test xs → (Some (get_or xs k d) ≡ find test xs) × (remove xs k ≡ without_first test xs)
  first-at xs k d is = by (nat_lt (position_or_len test xs) (length xs)) refl is
    where
      by : (b : Bool) → nat_lt (position_or_len test xs) (length xs) ≡ b → Some k ≡ cond b (Some (position_or_len test xs)) None → (Some (get_or xs k d) ≡ find test xs) × (remove xs k ≡ without_first test xs)
      by true less is =
          let at : k ≡ position_or_len test xs = ap (λ o. unwrap_or o k) is in
          rw at (within xs d (ltb-true _ _ less))
      by false not_less is = cc

  -- where there is none, nothing passes
  pub no-first : (xs : Pings) → None ≡ position test xs → (find test xs ≡ None) × (without_first test xs ≡ xs)
  no-first xs is = by (nat_lt (position_or_len test xs) (length xs)) refl is
    where
      by : (b : Bool) → nat_lt (position_or_len test xs) (length xs) ≡ b → None ≡ cond b (Some (position_or_len test xs)) None → (find test xs ≡ None) × (without_first test xs ≡ xs)
      by true less is = cc
      by false not_less is = past xs (ltb-false _ _ not_less)
