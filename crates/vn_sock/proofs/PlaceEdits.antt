-- Where elements stand in a list: the first that passes a test, and what stands at a place, after an edit.
use Rattle.std.proofs.Common.{◌≡◌, ◌≢◌, ℕ, zero, suc, ◌<◌, ◌≤◌, ◌+◌, Bool, true, false, cond, not, ◌||◌, nat_lt, List, [], ◌∷◌, ◌++◌, length, get_or, set, map, Option, Some, None, is_some, refl, sym, ap, ◌∙◌, arith}
use Rattle.std.specs.Prelude.{slice_get}
use Rattle.std.specs.List.{list_any, filter, position, position_or_len, remove}
use Rattle.std.specs.Option.{option_map, option_map_or, option_or}
use Rattle.std.proofs.lemmas.Bool.{and_from, and_parts, or_parts, not-true, lt-ltb, le-ltb, ltb-true, ltb-false}
use Rattle.std.proofs.lemmas.Bool.Decides.{nat_tests}
use Rattle.vn_rules.specs.Orders.{are_distinct}
use Rattle.vn_rules.proofs.ListTests.{all_kept, both_pass, none_weaker}
use Rattle.vn_sock.specs.Kept.{first_place}
use Rattle.vn_sock.specs.Names.{moved, unmoved}

-- ---- places that move up

moved-first : (j : ℕ) → moved zero (suc j) ≡ j
moved-first j = grind (arith, nat_tests)

moved-later : (k j : ℕ) → moved (suc k) (suc j) ≡ suc (moved k j)
moved-later k j = grind (arith, nat_tests)

unmoved-first : (j : ℕ) → unmoved zero j ≡ suc j
unmoved-first j = grind (arith, nat_tests)

unmoved-later : (k j : ℕ) → unmoved (suc k) (suc j) ≡ suc (unmoved k j)
unmoved-later k j = grind (arith, nat_tests)

unmoved-start : (k : ℕ) → unmoved (suc k) zero ≡ zero
unmoved-start k = grind (arith, nat_tests)

moved-start : (k : ℕ) → moved (suc k) zero ≡ zero
moved-start k = grind (arith, nat_tests)

-- ---- the first that passes

module _ {A : Type 0} (t : A → Bool) where
  pub first-is-position : (xs : List A) → first_place t xs ≡ position t xs
  first-is-position [] = refl
  first-is-position (x ∷ xs) = by (t x) (first-is-position xs)
    where
      inner : (b : Bool) → nat_lt (position_or_len t xs) (length xs) ≡ b
          → option_map (λ k. suc k) (cond b (Some (position_or_len t xs)) None) ≡ cond (nat_lt (1 + position_or_len t xs) (suc (length xs))) (Some (1 + position_or_len t xs)) None
      inner true less =
          let within : 1 + position_or_len t xs < suc (length xs) = omega (arith, ltb-true (position_or_len t xs) (length xs) less) in
          let next : suc (position_or_len t xs) ≡ 1 + position_or_len t xs = omega arith in
          ap Some next ∙ sym (ap (λ b. cond b (Some (1 + position_or_len t xs)) None) (lt-ltb (1 + position_or_len t xs) (suc (length xs)) within))
      inner false past =
          let beyond : suc (length xs) ≤ 1 + position_or_len t xs = omega (arith, ltb-false (position_or_len t xs) (length xs) past) in
          sym (ap (λ b. cond b (Some (1 + position_or_len t xs)) None) (le-ltb (1 + position_or_len t xs) (suc (length xs)) beyond))

      by : (b : Bool) → first_place t xs ≡ position t xs
          → cond b (Some 0) (option_map (λ k. suc k) (first_place t xs)) ≡ cond (nat_lt (cond (not b) (1 + position_or_len t xs) 0) (suc (length xs))) (Some (cond (not b) (1 + position_or_len t xs) 0)) None
      by true is = sym (ap (λ b. cond b (Some 0) None) (lt-ltb 0 (suc (length xs)) (omega arith)))
      by false is = ap (option_map (λ k. suc k)) is ∙ inner (nat_lt (position_or_len t xs) (length xs)) refl

  pub first-pushed : (xs : List A) (x : A) → first_place t (xs ++ x ∷ []) ≡ option_or (first_place t xs) (cond (t x) (Some (length xs)) None)
  first-pushed [] x = refl
  first-pushed (y ∷ xs) x = by (t y) (first-pushed xs x)
    where
      out : (o : Option ℕ) (b : Bool) → option_map (λ k. suc k) (option_or o (cond b (Some (length xs)) None)) ≡ option_or (option_map (λ k. suc k) o) (cond b (Some (suc (length xs))) None)
      out (Some k) b = refl
      out None true = refl
      out None false = refl

      by : (b : Bool) → first_place t (xs ++ x ∷ []) ≡ option_or (first_place t xs) (cond (t x) (Some (length xs)) None)
          → cond b (Some 0) (option_map (λ k. suc k) (first_place t (xs ++ x ∷ []))) ≡ option_or (cond b (Some 0) (option_map (λ k. suc k) (first_place t xs))) (cond (t x) (Some (suc (length xs))) None)
      by true more = refl
      by false more = ap (option_map (λ k. suc k)) more ∙ out (first_place t xs) (t x)

  pub first-none : (xs : List A) → list_any t xs ≡ false → first_place t xs ≡ None
  first-none [] none = refl
  first-none (x ∷ xs) none = let parts = or_parts (t x) _ none in rw parts.0 (ap (option_map (λ k. suc k)) (first-none xs parts.1))

  pub first-some : (xs : List A) → is_some (first_place t xs) ≡ list_any t xs
  first-some [] = refl
  first-some (x ∷ xs) = by (t x) (first_place t xs) (first-some xs)
    where
      by : (b : Bool) (o : Option ℕ) → is_some o ≡ list_any t xs → is_some (cond b (Some 0) (option_map (λ k. suc k) o)) ≡ (b || list_any t xs)
      by true o more = refl
      by false None more = more
      by false (Some k) more = more

  -- what stands there passes
  pub first-passes : (xs : List A) (k : ℕ) → first_place t xs ≡ Some k → (k < length xs) × ((d : A) → t (get_or xs k d) ≡ true)
  first-passes [] k is = absurd (cc)
  first-passes (x ∷ xs) k is = by (λ j at. first-passes xs j at) (t x) refl (first_place t xs) refl is
    where
      by : ((j : ℕ) → first_place t xs ≡ Some j → (j < length xs) × ((d : A) → t (get_or xs j d) ≡ true)) → (b : Bool) → t x ≡ b → (o : Option ℕ) → first_place t xs ≡ o → cond b (Some 0) (option_map (λ k. suc k) o) ≡ Some k → (k < length (x ∷ xs)) × ((d : A) → t (get_or (x ∷ xs) k d) ≡ true)
      by more true here o at is = let first : zero ≡ k = cc in rw (sym first) (omega arith, λ d. here)
      by more false here None at is = absurd (cc)
      by more false here (Some j) at is =
          let later : suc j ≡ k = cc in
          let rest = more j at in
          rw (sym later) (omega (arith, rest.0), rest.1)

  -- whether what stands at a place passes
  abbrev pub passes_at : List A → ℕ → Bool
  passes_at xs k = option_map_or t (slice_get xs k) false

  pub first-at : (xs : List A) (k : ℕ) → passes_at xs k ≡ true → ((j : ℕ) → j < k → passes_at xs j ≡ false) → first_place t xs ≡ Some k
  first-at [] k here before = absurd (cc)
  first-at (x ∷ xs) zero here before = rw here refl
  first-at (x ∷ xs) (suc k) here before =
      rw (before zero (omega arith)) (ap (option_map (λ k. suc k)) (first-at xs k here (λ j less. before (suc j) (omega arith))))

  pub none-at : (xs : List A) → ((k : ℕ) → passes_at xs k ≡ false) → first_place t xs ≡ None
  none-at [] none = refl
  none-at (x ∷ xs) none = rw (none zero) (ap (option_map (λ k. suc k)) (none-at xs (λ k. none (suc k))))

  -- ---- after one is taken away

  -- that passes as no other does
  pub removed-is : (xs : List A) (k : ℕ) → are_distinct (both_pass t) xs ≡ true → first_place t xs ≡ Some k → remove xs k ≡ filter (λ x. not (t x)) xs
  removed-is [] k one is = absurd (cc)
  removed-is (x ∷ xs) k one is =
      let parts = and_parts (not (list_any (both_pass t x) xs)) _ one in by (λ j at. removed-is xs j parts.1 at) (t x) refl (first_place t xs) refl is (not-true _ parts.0)
    where
      by : ((j : ℕ) → first_place t xs ≡ Some j → remove xs j ≡ filter (λ x. not (t x)) xs) → (b : Bool) → t x ≡ b → (o : Option ℕ) → first_place t xs ≡ o → cond b (Some 0) (option_map (λ k. suc k) o) ≡ Some k → list_any (both_pass t x) xs ≡ false
          → remove (x ∷ xs) k ≡ cond (not b) (x ∷ filter (λ x. not (t x)) xs) (filter (λ x. not (t x)) xs)
      by more true here o at is none =
          let first : k ≡ zero = cc in ap (remove (x ∷ xs)) first ∙ sym (all_kept t xs (none_weaker t (both_pass t x) (λ y passes. and_from (t x) (t y) here passes) xs none))
      by more false here None at is none = absurd (cc)
      by more false here (Some j) at is none =
          let later : k ≡ suc j = cc in ap (remove (x ∷ xs)) later ∙ ap (λ ys. x ∷ ys) (more j at)

  -- that does not pass
  pub first-kept : (xs : List A) (k : ℕ) → k < length xs → ((d : A) → t (get_or xs k d) ≡ false) → first_place t (remove xs k) ≡ option_map (moved k) (first_place t xs)
  first-kept [] k less fails = absurd (omega arith)
  first-kept (x ∷ xs) zero less fails = rw (fails x) (sym (back (first_place t xs)))
    where
      back : (o : Option ℕ) → option_map (moved zero) (option_map (λ k. suc k) o) ≡ o
      back None = refl
      back (Some j) = ap Some (moved-first j)
  first-kept (x ∷ xs) (suc k) less fails = by (t x) (first-kept xs k (omega arith) fails)
    where
      out : (o : Option ℕ) → option_map (λ k. suc k) (option_map (moved k) o) ≡ option_map (moved (suc k)) (option_map (λ k. suc k) o)
      out None = refl
      out (Some j) = ap Some (sym (moved-later k j))

      by : (b : Bool) → first_place t (remove xs k) ≡ option_map (moved k) (first_place t xs)
          → cond b (Some 0) (option_map (λ k. suc k) (first_place t (remove xs k))) ≡ option_map (moved (suc k)) (cond b (Some 0) (option_map (λ k. suc k) (first_place t xs)))
      by true more = ap Some (sym (moved-start k))
      by false more = ap (option_map (λ k. suc k)) more ∙ out (first_place t xs)

-- ---- what stands at a place

module _ {A : Type 0} where
  pub get-set-here : (xs : List A) (k : ℕ) (v : A) → k < length xs → slice_get (set xs k v) k ≡ Some v
  get-set-here [] k v less = absurd (omega arith)
  get-set-here (x ∷ xs) zero v less = refl
  get-set-here (x ∷ xs) (suc k) v less = get-set-here xs k v (omega arith)

  pub get-set-other : (xs : List A) (k j : ℕ) (v : A) → j ≢ k → slice_get (set xs k v) j ≡ slice_get xs j
  get-set-other [] k j v other = refl
  get-set-other (x ∷ xs) zero zero v other = absurd (other refl)
  get-set-other (x ∷ xs) zero (suc j) v other = refl
  get-set-other (x ∷ xs) (suc k) zero v other = refl
  get-set-other (x ∷ xs) (suc k) (suc j) v other = get-set-other xs k j v (λ e. other (ap (λ n. suc n) e))

  pub get-pushed-here : (xs : List A) (v : A) → slice_get (xs ++ v ∷ []) (length xs) ≡ Some v
  get-pushed-here [] v = refl
  get-pushed-here (x ∷ xs) v = get-pushed-here xs v

  pub get-pushed-other : (xs : List A) (j : ℕ) (v : A) → j ≢ length xs → slice_get (xs ++ v ∷ []) j ≡ slice_get xs j
  get-pushed-other [] zero v other = absurd (other refl)
  get-pushed-other [] (suc j) v other = refl
  get-pushed-other (x ∷ xs) zero v other = refl
  get-pushed-other (x ∷ xs) (suc j) v other = get-pushed-other xs j v (λ e. other (ap (λ n. suc n) e))

  pub get-removed : (xs : List A) (k j : ℕ) → slice_get (remove xs k) j ≡ slice_get xs (unmoved k j)
  get-removed [] zero j = refl
  get-removed [] (suc k) j = refl
  get-removed (x ∷ xs) zero j = ap (slice_get (x ∷ xs)) (sym (unmoved-first j))
  get-removed (x ∷ xs) (suc k) zero = ap (slice_get (x ∷ xs)) (sym (unmoved-start k))
  get-removed (x ∷ xs) (suc k) (suc j) = get-removed xs k j ∙ ap (slice_get (x ∷ xs)) (sym (unmoved-later k j))

module _ {A B : Type 0} (f : A → B) where
  pub map-removed : (xs : List A) (k : ℕ) → map f (remove xs k) ≡ remove (map f xs) k
  map-removed [] zero = refl
  map-removed [] (suc k) = refl
  map-removed (x ∷ xs) zero = refl
  map-removed (x ∷ xs) (suc k) = ap (λ ys. f x ∷ ys) (map-removed xs k)
