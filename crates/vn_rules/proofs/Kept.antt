-- What tests over a list say once some of it is filtered out, and what two tests say of one list.
use Rattle.std.proofs.Common.{◌≡◌, ℕ, Bool, true, false, cond, not, ◌||◌, List, [], ◌∷◌, length, refl, sym, ap, ◌∙◌, arith}
use Rattle.std.specs.List.{list_any, list_all, count_by, filter}
use Rattle.std.specs.Ordering.{is_lt}
use Rattle.std.specs.declared.cmp.Ordering.{Ordering}
use Rattle.std.specs.Map.{keys_of}
use Rattle.std.proofs.lemmas.List.Sums.{length-filter}
use Rattle.std.proofs.lemmas.Bool.{and_parts, and_from, or_parts, or_from, or_left, or_right, false≢true}
use Rattle.vn_rules.specs.Orders.{are_rising, are_distinct}

-- x is in the list: each test that it passes is passed there
abbrev pub IsIn : {X : Type 0} → X → List X → Type 0
IsIn {X = X} x xs = (p : X → Bool) → p x ≡ true → list_any p xs ≡ true

module _ {X : Type 0} where
  in_first : (x : X) (xs : List X) → IsIn x (x ∷ xs)
  in_first x xs p e = rw e refl

  in_rest : (x y : X) (xs : List X) → IsIn y xs → IsIn y (x ∷ xs)
  in_rest x y xs is p e = rw (is p e) (by (p x))
    where
      by : (b : Bool) → b || true ≡ true
      by true = refl
      by false = refl

  -- what the kept elements pass, where each that is kept and passed the first test passes the second
  pub all_filtered_in : (t u k : X → Bool) (xs : List X) → ((x : X) → IsIn x xs → k x ≡ true → t x ≡ true → u x ≡ true) → list_all t xs ≡ true → list_all u (filter k xs) ≡ true
  all_filtered_in t u k [] h all = refl
  all_filtered_in t u k (x ∷ xs) h all =
      let parts = and_parts (t x) (list_all t xs) all in by (k x) refl parts.0 (all_filtered_in t u k xs (λ y is. h y (in_rest x y xs is)) parts.1)
    where
      by : (b : Bool) → k x ≡ b → t x ≡ true → list_all u (filter k xs) ≡ true → list_all u (cond b (x ∷ filter k xs) (filter k xs)) ≡ true
      by true kept here more = and_from (u x) _ (h x (in_first x xs) kept here) more
      by false left here more = more

  pub all_filtered : (t u k : X → Bool) (xs : List X) → ((x : X) → k x ≡ true → t x ≡ true → u x ≡ true) → list_all t xs ≡ true → list_all u (filter k xs) ≡ true
  all_filtered t u k xs h all = all_filtered_in t u k xs (λ x is. h x) all

  pub all_in : (t u : X → Bool) (xs : List X) → ((x : X) → IsIn x xs → t x ≡ true → u x ≡ true) → list_all t xs ≡ true → list_all u xs ≡ true
  all_in t u [] h all = refl
  all_in t u (x ∷ xs) h all =
      let parts = and_parts (t x) (list_all t xs) all in
      and_from (u x) (list_all u xs) (h x (in_first x xs) parts.0) (all_in t u xs (λ y is. h y (in_rest x y xs is)) parts.1)

  -- what the filter keeps passes it
  pub all_passed : (k : X → Bool) (xs : List X) → list_all k (filter k xs) ≡ true
  all_passed k [] = refl
  all_passed k (x ∷ xs) = by (k x) refl (all_passed k xs)
    where
      by : (b : Bool) → k x ≡ b → list_all k (filter k xs) ≡ true → list_all k (cond b (x ∷ filter k xs) (filter k xs)) ≡ true
      by true kept more = and_from (k x) _ kept more
      by false left more = more

  -- a test that fails wherever the filter does finds as much as before
  pub any_filter_in : (t k : X → Bool) (xs : List X) → ((x : X) → IsIn x xs → k x ≡ false → t x ≡ false) → list_any t (filter k xs) ≡ list_any t xs
  any_filter_in t k [] h = refl
  any_filter_in t k (x ∷ xs) h = by (k x) refl (any_filter_in t k xs (λ y is. h y (in_rest x y xs is)))
    where
      by : (b : Bool) → k x ≡ b → list_any t (filter k xs) ≡ list_any t xs → list_any t (cond b (x ∷ filter k xs) (filter k xs)) ≡ (t x || list_any t xs)
      by true kept more = ap (λ b. t x || b) more
      by false left more = more ∙ sym (ap (λ b. b || list_any t xs) (h x (in_first x xs) left))

  pub any_filter : (t k : X → Bool) (xs : List X) → ((x : X) → k x ≡ false → t x ≡ false) → list_any t (filter k xs) ≡ list_any t xs
  any_filter t k xs h = any_filter_in t k xs (λ x is. h x)

  filter_filter : (t k : X → Bool) (xs : List X) → ((x : X) → IsIn x xs → k x ≡ false → t x ≡ false) → filter t (filter k xs) ≡ filter t xs
  filter_filter t k [] h = refl
  filter_filter t k (x ∷ xs) h = by (k x) refl (filter_filter t k xs (λ y is. h y (in_rest x y xs is)))
    where
      by : (b : Bool) → k x ≡ b → filter t (filter k xs) ≡ filter t xs → filter t (cond b (x ∷ filter k xs) (filter k xs)) ≡ cond (t x) (x ∷ filter t xs) (filter t xs)
      by true kept more = ap (λ ys. cond (t x) (x ∷ ys) ys) more
      by false left more = more ∙ sym (ap (λ b. cond b (x ∷ filter t xs) (filter t xs)) (h x (in_first x xs) left))

  -- and counts as many
  pub count_filter : (t k : X → Bool) (xs : List X) → ((x : X) → IsIn x xs → k x ≡ false → t x ≡ false) → count_by t (filter k xs) ≡ count_by t xs
  count_filter t k xs h = sym (length-filter t (filter k xs)) ∙ ap length (filter_filter t k xs h) ∙ length-filter t xs

  pub any_weaker : (t u : X → Bool) (xs : List X) → ((x : X) → t x ≡ true → u x ≡ true) → list_any t xs ≡ true → list_any u xs ≡ true
  any_weaker t u [] h any = any
  any_weaker t u (x ∷ xs) h any = by (t x) refl any (any_weaker t u xs h)
    where
      by : (b : Bool) → t x ≡ b → b || list_any t xs ≡ true → (list_any t xs ≡ true → list_any u xs ≡ true) → u x || list_any u xs ≡ true
      by true is any more = or_left (u x) (list_any u xs) (h x is)
      by false is any more = or_right (u x) (list_any u xs) (more any)

  -- some element passes one test and each the other: what follows of such an element holds
  pub from_any : (t u : X → Bool) (b : Bool) (xs : List X) → ((x : X) → t x ≡ true → u x ≡ true → b ≡ true) → list_any t xs ≡ true → list_all u xs ≡ true → b ≡ true
  from_any t u b [] h any all = absurd (false≢true any)
  from_any t u b (x ∷ xs) h any all = let parts = and_parts (u x) (list_all u xs) all in by (t x) refl any parts.0 (λ a. from_any t u b xs h a parts.1)
    where
      by : (c : Bool) → t x ≡ c → c || list_any t xs ≡ true → u x ≡ true → (list_any t xs ≡ true → b ≡ true) → b ≡ true
      by true is any here more = h x is here
      by false is any here more = more any

  -- nothing passes where each fails
  pub none_from_all : (t u : X → Bool) (xs : List X) → ((x : X) → u x ≡ true → t x ≡ false) → list_all u xs ≡ true → list_any t xs ≡ false
  none_from_all t u [] h all = refl
  none_from_all t u (x ∷ xs) h all =
      let parts = and_parts (u x) (list_all u xs) all in or_from (t x) (list_any t xs) (h x parts.0) (none_from_all t u xs h parts.1)

  pub all_from_none : (t : X → Bool) (xs : List X) → list_any t xs ≡ false → list_all (λ x. not (t x)) xs ≡ true
  all_from_none t [] none = refl
  all_from_none t (x ∷ xs) none =
      let parts = or_parts (t x) (list_any t xs) none in and_from (not (t x)) _ (ap not parts.0) (all_from_none t xs parts.1)

  pub any_from_count : (t : X → Bool) (xs : List X) → count_by t xs ≡ 1 → list_any t xs ≡ true
  any_from_count t xs one = by xs (length-filter t xs ∙ one)
    where
      zero≢one : ◌≡◌ {A = ℕ} 0 1 → ⊥
      zero≢one e = omega arith

      by : (ys : List X) → length (filter t ys) ≡ 1 → list_any t ys ≡ true
      by [] e = absurd (zero≢one e)
      by (y ∷ ys) e = at (t y) e (by ys)
        where
          at : (b : Bool) → length (cond b (y ∷ filter t ys) (filter t ys)) ≡ 1 → (length (filter t ys) ≡ 1 → list_any t ys ≡ true) → b || list_any t ys ≡ true
          at true e more = refl
          at false e more = more e

  -- ---- lists whose elements are apart

  -- two tests that no element passes both of are not both passed in it, where what passes them is not told apart
  pub not_both : (same : X → X → Bool) (t u : X → Bool) (xs : List X) → are_distinct same xs ≡ true
      → ((x y : X) → t x ≡ true → u y ≡ true → same x y ≡ true) → ((x y : X) → t x ≡ true → u y ≡ true → same y x ≡ true)
      → ((x : X) → t x ≡ true → u x ≡ false) → list_any t xs ≡ true → list_any u xs ≡ false
  not_both same t u [] apart one other disjoint any = refl
  not_both same t u (x ∷ xs) apart one other disjoint any = by (t x) refl any (not_both same t u xs parts.1 one other disjoint)
    where
      parts : (not (list_any (same x) xs) ≡ true) × (are_distinct same xs ≡ true)
      parts = and_parts _ (are_distinct same xs) apart

      clash : (b : Bool) → not b ≡ true → b ≡ true → ⊥
      clash true e f = cc
      clash false e f = cc

      rest : (b : Bool) → t x ≡ true → list_any u xs ≡ b → b ≡ false
      rest true is found = absurd (clash (list_any (same x) xs) parts.0 (any_weaker u (same x) xs (λ y. one x y is) found))
      rest false is found = refl

      first : (b : Bool) → u x ≡ b → list_any t xs ≡ true → b ≡ false
      first true is found = absurd (clash (list_any (same x) xs) parts.0 (any_weaker t (same x) xs (λ y f. other y x f is) found))
      first false is found = refl

      by : (b : Bool) → t x ≡ b → b || list_any t xs ≡ true → (list_any t xs ≡ true → list_any u xs ≡ false) → u x || list_any u xs ≡ false
      by true is any more = or_from (u x) (list_any u xs) (disjoint x is) (rest (list_any u xs) is refl)
      by false is any more = or_from (u x) (list_any u xs) (first (u x) refl any) (more any)

-- ---- entries under their keys

module _ {K V : Type 0} (cmp : K → K → Ordering) (k : K × V → Bool) where
  after_kept : (q : K) (es : List (K × V)) → list_all (λ x. is_lt (cmp q x)) (keys_of es) ≡ true → list_all (λ x. is_lt (cmp q x)) (keys_of (filter k es)) ≡ true
  after_kept q [] all = refl
  after_kept q (e ∷ es) all = by (k e) (after_kept q es parts.1)
    where
      parts : (is_lt (cmp q e.0) ≡ true) × (list_all (λ x. is_lt (cmp q x)) (keys_of es) ≡ true)
      parts = and_parts _ _ all

      by : (b : Bool) → list_all (λ x. is_lt (cmp q x)) (keys_of (filter k es)) ≡ true → list_all (λ x. is_lt (cmp q x)) (keys_of (cond b (e ∷ filter k es) (filter k es))) ≡ true
      by true more = and_from _ _ parts.0 more
      by false more = more

  -- keys in order stay in order
  pub rising_kept : (es : List (K × V)) → are_rising cmp (keys_of es) ≡ true → are_rising cmp (keys_of (filter k es)) ≡ true
  rising_kept [] rising = refl
  rising_kept (e ∷ es) rising = by (k e) (rising_kept es parts.1)
    where
      parts : (list_all (λ x. is_lt (cmp e.0 x)) (keys_of es) ≡ true) × (are_rising cmp (keys_of es) ≡ true)
      parts = and_parts _ _ rising

      by : (b : Bool) → are_rising cmp (keys_of (filter k es)) ≡ true → are_rising cmp (keys_of (cond b (e ∷ filter k es) (filter k es))) ≡ true
      by true more = and_from _ _ (after_kept e.0 es parts.0) more
      by false more = more

  -- and what each key passes stays so
  pub keys_kept : (t : K → Bool) (es : List (K × V)) → list_all t (keys_of es) ≡ true → list_all t (keys_of (filter k es)) ≡ true
  keys_kept t [] all = refl
  keys_kept t (e ∷ es) all = by (k e) (keys_kept t es parts.1)
    where
      parts : (t e.0 ≡ true) × (list_all t (keys_of es) ≡ true)
      parts = and_parts _ _ all

      by : (b : Bool) → list_all t (keys_of (filter k es)) ≡ true → list_all t (keys_of (cond b (e ∷ filter k es) (filter k es))) ≡ true
      by true more = and_from _ _ parts.0 more
      by false more = more
