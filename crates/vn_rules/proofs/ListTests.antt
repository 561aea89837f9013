-- Tests over lists: through a renaming, and where an element is changed, added or taken away.
use Rattle.std.proofs.Common.{None, Option, ◌||◌, ◌≡◌, Bool, true, false, cond, not, ◌&&◌, List, [], ◌∷◌, ◌++◌, map, Some, refl, sym, ap, ap₂, ◌∙◌, arith, ℕ, ◌+◌, ◌≤◌, zero, suc}
use Rattle.std.specs.List.{list_any, list_all, filter, find, flat_map, count_by, sum, slice_set}
use Rattle.std.specs.Prelude.{slice_get}
use Rattle.std.specs.Option.{option_map_or}
use Rattle.std.proofs.lemmas.Bool.{and_parts, and_from, or_parts, or_from, not-true, not_from_false, both_ways}
use Rattle.std.proofs.lemmas.List.Folds.{list_all-map, list_all-append}
use Rattle.std.proofs.lemmas.List.Sums.{sum-map, sum_by-cons}
use Rattle.std.proofs.lemmas.Simd.{map-map}
use Rattle.vn_types.proofs.ListMaps.{any_map_same}
use Rattle.vn_rules.specs.Orders.{are_distinct}
use Rattle.vn_rules.proofs.Kept.{all_filtered, all_from_none, none_from_all}

-- ---- where the renaming of the elements keeps the test

module _ {A B : Type 0} (f : A → B) (p : A → Bool) (q : B → Bool) (kept : (x : A) → q (f x) ≡ p x) where
  pub all_map_same : (xs : List A) → list_all q (map f xs) ≡ list_all p xs
  all_map_same xs = list_all-map q f xs ∙ (λ i. list_all (λ x. kept x i) xs)

  pub count_map_same : (xs : List A) → count_by q (map f xs) ≡ count_by p xs
  count_map_same xs =
      sym (sum-map (λ y. cond (q y) 1 0) (map f xs)) ∙ ap sum (map-map (λ y. cond (q y) 1 0) f xs)
      ∙ sum-map (λ x. cond (q (f x)) 1 0) xs
      ∙ (λ i. count_by (λ x. kept x i) xs)

module _ {A B : Type 0} (f : A → B) (p : A → A → Bool) (q : B → B → Bool) (kept : (x y : A) → q (f x) (f y) ≡ p x y) where
  pub distinct_map_same : (xs : List A) → are_distinct q (map f xs) ≡ are_distinct p xs
  distinct_map_same [] = refl
  distinct_map_same (x ∷ xs) =
      ap₂ (λ found rest. not found && rest) (any_map_same f (p x) (q (f x)) (kept x) xs) (distinct_map_same xs)

-- ---- a test that follows from another

module _ {A : Type 0} (p q : A → Bool) (weaker : (x : A) → p x ≡ true → q x ≡ true) where
  pub all_weaker : (xs : List A) → list_all p xs ≡ true → list_all q xs ≡ true
  all_weaker [] all = refl
  all_weaker (x ∷ xs) all = let parts = and_parts (p x) _ all in and_from (q x) _ (weaker x parts.0) (all_weaker xs parts.1)

  pub none_weaker : (xs : List A) → list_any q xs ≡ false → list_any p xs ≡ false
  none_weaker [] none = refl
  none_weaker (x ∷ xs) none = let parts = or_parts (q x) _ none in or_from (p x) _ (by (p x) refl parts.0) (none_weaker xs parts.1)
    where
      by : (b : Bool) → p x ≡ b → q x ≡ false → p x ≡ false
      by true is fails = absurd (both_ways (q x) fails (weaker x is))
      by false is fails = is

pub distinct_weaker : {A : Type 0} (p q : A → A → Bool) → ((x y : A) → q x y ≡ true → p x y ≡ true) → (xs : List A) → are_distinct p xs ≡ true → are_distinct q xs ≡ true
distinct_weaker p q weaker [] apart = refl
distinct_weaker p q weaker (x ∷ xs) apart =
    let parts = and_parts (not (list_any (p x) xs)) _ apart in
    and_from (not (list_any (q x) xs)) _ (not_from_false _ (none_weaker (q x) (p x) (weaker x) xs (not-true _ parts.0))) (distinct_weaker p q weaker xs parts.1)

pub all_map_kept : {A B : Type 0} (f : A → B) (p : A → Bool) (q : B → Bool) → ((x : A) → p x ≡ true → q (f x) ≡ true) → (xs : List A) → list_all p xs ≡ true → list_all q (map f xs) ≡ true
all_map_kept f p q kept xs all = list_all-map q f xs ∙ all_weaker p (λ x. q (f x)) kept xs all

-- what two tests give together
pub all_both : {A : Type 0} (p q : A → Bool) (xs : List A) → list_all p xs ≡ true → list_all q xs ≡ true → list_all (λ x. p x && q x) xs ≡ true
all_both p q [] left right = refl
all_both p q (x ∷ xs) left right =
    let l = and_parts (p x) _ left in
    let r = and_parts (q x) _ right in
    and_from (p x && q x) _ (and_from (p x) _ l.0 r.0) (all_both p q xs l.1 r.1)

pub all_flat_map : {A B : Type 0} (q : B → Bool) (f : A → List B) (xs : List A) → list_all q (flat_map f xs) ≡ list_all (λ x. list_all q (f x)) xs
all_flat_map q f [] = refl
all_flat_map q f (x ∷ xs) = list_all-append q (f x) (flat_map f xs) ∙ ap (λ rest. list_all q (f x) && rest) (all_flat_map q f xs)

-- ---- one element more, last

module _ {A : Type 0} (same : A → A → Bool) (y : A) where
  pub distinct_push : (xs : List A) → are_distinct same xs ≡ true → list_any (λ x. same x y) xs ≡ false → are_distinct same (xs ++ y ∷ []) ≡ true
  distinct_push [] apart none = refl
  distinct_push (x ∷ xs) apart none =
      let parts = and_parts (not (list_any (same x) xs)) _ apart in
      let left = or_parts (same x y) _ none in
      and_from (not (list_any (same x) (xs ++ y ∷ []))) _ (not_from_false _ (pushed x xs (not-true _ parts.0) left.0)) (distinct_push xs parts.1 left.1)
    where
      pushed : (x : A) (xs : List A) → list_any (same x) xs ≡ false → same x y ≡ false → list_any (same x) (xs ++ y ∷ []) ≡ false
      pushed x [] none fails = or_from _ _ fails refl
      pushed x (z ∷ xs) none fails = let parts = or_parts (same x z) _ none in or_from _ _ parts.0 (pushed x xs parts.1 fails)

pub all_push : {A : Type 0} (p : A → Bool) (y : A) (xs : List A) → list_all p xs ≡ true → p y ≡ true → list_all p (xs ++ y ∷ []) ≡ true
all_push p y xs all here = list_all-append p xs (y ∷ []) ∙ and_from _ _ all (and_from (p y) true here refl)

-- ---- elements that are kept

module _ {A : Type 0} (keep : A → Bool) where
  pub all_filter : (p : A → Bool) (xs : List A) → list_all p xs ≡ true → list_all p (filter keep xs) ≡ true
  all_filter p xs all = all_filtered p p keep xs (λ x kept is. is) all

  pub none_filter : (p : A → Bool) (xs : List A) → list_any p xs ≡ false → list_any p (filter keep xs) ≡ false
  none_filter p xs none = none_from_all p (λ x. not (p x)) (filter keep xs) (λ x. not-true (p x)) (all_filter (λ x. not (p x)) xs (all_from_none p xs none))

  pub distinct_filter : (same : A → A → Bool) (xs : List A) → are_distinct same xs ≡ true → are_distinct same (filter keep xs) ≡ true
  distinct_filter same [] apart = refl
  distinct_filter same (x ∷ xs) apart =
      let parts = and_parts (not (list_any (same x) xs)) _ apart in by (keep x) (not-true _ parts.0) (distinct_filter same xs parts.1)
    where
      by : (b : Bool) → list_any (same x) xs ≡ false → are_distinct same (filter keep xs) ≡ true → are_distinct same (cond b (x ∷ filter keep xs) (filter keep xs)) ≡ true
      by true none rest = and_from _ _ (not_from_false _ (none_filter (same x) xs none)) rest
      by false none rest = rest

-- ---- the one element that a test finds

module _ {A : Type 0} (p : A → Bool) where
  -- whether two elements pass
  abbrev pub both_pass : A → A → Bool
  both_pass x y = p x && p y

  pub find_passes : (xs : List A) (s : A) → find p xs ≡ Some s → p s ≡ true
  find_passes [] s found = cc
  find_passes (x ∷ xs) s found = by (p x) refl found (find_passes xs s)
    where
      by : (b : Bool) → p x ≡ b → cond b (Some x) (find p xs) ≡ Some s → (find p xs ≡ Some s → p s ≡ true) → p s ≡ true
      by true is found more = let same : x ≡ s = cc in ap p (sym same) ∙ is
      by false is found more = more found

  pub found-some : (xs : List A) (s : A) → find p xs ≡ Some s → list_any p xs ≡ true
  found-some [] s found = cc
  found-some (x ∷ xs) s found = by (p x) found (found-some xs s)
    where
      by : (b : Bool) → cond b (Some x) (find p xs) ≡ Some s → (find p xs ≡ Some s → list_any p xs ≡ true) → (b || list_any p xs) ≡ true
      by true found more = refl
      by false found more = more found

  pub absent-none : (xs : List A) → find p xs ≡ None → list_any p xs ≡ false
  absent-none [] absent = refl
  absent-none (x ∷ xs) absent = by (p x) absent (absent-none xs)
    where
      by : (b : Bool) → cond b (Some x) (find p xs) ≡ None → (find p xs ≡ None → list_any p xs ≡ false) → (b || list_any p xs) ≡ false
      by true absent more = absurd (cc)
      by false absent more = more absent

  pub find_all : (q : A → Bool) (xs : List A) (s : A) → find p xs ≡ Some s → list_all q xs ≡ true → q s ≡ true
  find_all q [] s found all = cc
  find_all q (x ∷ xs) s found all = let parts = and_parts (q x) _ all in by (p x) found parts.0 (λ found. find_all q xs s found parts.1)
    where
      by : (b : Bool) → cond b (Some x) (find p xs) ≡ Some s → q x ≡ true → (find p xs ≡ Some s → q s ≡ true) → q s ≡ true
      by true found here more = let same : x ≡ s = cc in ap q (sym same) ∙ here
      by false found here more = more found

  -- where one passes and no two do, no other does
  none_more : (x : A) → p x ≡ true → (xs : List A) → list_any (both_pass x) xs ≡ false → list_any p xs ≡ false
  none_more x is xs none = none_weaker p (both_pass x) (λ y passes. and_from (p x) (p y) is passes) xs none

  pub unchanged : (f : A → A) (xs : List A) → list_any p xs ≡ false → map (λ x. cond (p x) (f x) x) xs ≡ xs
  unchanged f [] none = refl
  unchanged f (x ∷ xs) none = let parts = or_parts (p x) _ none in ap₂ (λ y ys. y ∷ ys) (rw parts.0 refl) (unchanged f xs parts.1)

  pub all_kept : (xs : List A) → list_any p xs ≡ false → filter (λ x. not (p x)) xs ≡ xs
  all_kept [] none = refl
  all_kept (x ∷ xs) none = let parts = or_parts (p x) _ none in rw parts.0 (ap (λ ys. x ∷ ys) (all_kept xs parts.1))

  -- to change what passes is to put the change of what is found there
  pub edit_found : (f : A → A) (xs : List A) (s : A) → are_distinct both_pass xs ≡ true → find p xs ≡ Some s → map (λ x. cond (p x) (f x) x) xs ≡ map (λ x. cond (p x) (f s) x) xs
  edit_found f [] s one found = refl
  edit_found f (x ∷ xs) s one found =
      let parts = and_parts (not (list_any (both_pass x) xs)) _ one in by (p x) refl found (not-true _ parts.0) (edit_found f xs s parts.1)
    where
      by : (b : Bool) → p x ≡ b → cond b (Some x) (find p xs) ≡ Some s → list_any (both_pass x) xs ≡ false
          → (find p xs ≡ Some s → map (λ x. cond (p x) (f x) x) xs ≡ map (λ x. cond (p x) (f s) x) xs)
          → cond b (f x) x ∷ map (λ x. cond (p x) (f x) x) xs ≡ cond b (f s) x ∷ map (λ x. cond (p x) (f s) x) xs
      by true is found none more =
          let same : x ≡ s = cc in
          let rest : list_any p xs ≡ false = none_more x is xs none in
          ap₂ (λ y ys. y ∷ ys) (ap f same) (unchanged f xs rest ∙ sym (unchanged (λ _. f s) xs rest))
      by false is found none more = ap (λ ys. x ∷ ys) (more found)

  none_counted : (xs : List A) → list_any p xs ≡ false → count_by p xs ≡ 0
  none_counted [] clear = refl
  none_counted (x ∷ xs) clear =
      let parts = or_parts (p x) _ clear in
      let rest : count_by p xs ≡ 0 = none_counted xs parts.1 in
      let here : cond {A = ℕ} (p x) 1 0 ≡ 0 = rw parts.0 refl in
      let all : count_by p (x ∷ xs) ≡ cond (p x) 1 0 + count_by p xs = sum_by-cons (λ z. cond (p z) 1 0) x xs in
      omega arith

  -- where no two pass, at most one does
  pub at_most_one : (xs : List A) → are_distinct both_pass xs ≡ true → count_by p xs ≤ 1
  at_most_one [] one = omega arith
  at_most_one (x ∷ xs) one = let parts = and_parts (not (list_any (both_pass x) xs)) _ one in by (p x) refl (not-true _ parts.0) (at_most_one xs parts.1)
    where
      all : count_by p (x ∷ xs) ≡ cond (p x) 1 0 + count_by p xs
      all = sum_by-cons (λ z. cond (p z) 1 0) x xs

      by : (b : Bool) → p x ≡ b → list_any (both_pass x) xs ≡ false → count_by p xs ≤ 1 → count_by p (x ∷ xs) ≤ 1
      by true is clear more =
          let none : count_by p xs ≡ 0 = none_counted xs (none_more x is xs clear) in
          let here : cond {A = ℕ} (p x) 1 0 ≡ 1 = rw is refl in
          let whole : count_by p (x ∷ xs) ≡ cond (p x) 1 0 + count_by p xs = all in
          omega arith
      by false is clear more =
          let here : cond {A = ℕ} (p x) 1 0 ≡ 0 = rw is refl in
          let whole : count_by p (x ∷ xs) ≡ cond (p x) 1 0 + count_by p xs = all in
          omega arith

  module _ (same : A → A → Bool) (flip : (x y : A) → same x y ≡ same y x) where
    none_flip : (t : A) (xs : List A) → list_any (same t) xs ≡ list_any (λ x. same x t) xs
    none_flip t xs = λ i. list_any (λ x. flip t x i) xs

    -- what is found is apart from all others
    pub others_apart : (xs : List A) (s : A) → are_distinct both_pass xs ≡ true → are_distinct same xs ≡ true → find p xs ≡ Some s → list_any (same s) (filter (λ x. not (p x)) xs) ≡ false
    others_apart [] s one apart found = refl
    others_apart (x ∷ xs) s one apart found =
        let first = and_parts (not (list_any (both_pass x) xs)) _ one in
        let parts = and_parts (not (list_any (same x) xs)) _ apart in
        by (p x) refl found (not-true _ first.0) (not-true _ parts.0) (others_apart xs s first.1 parts.1)
      where
        here : (ys : List A) → list_any (same x) ys ≡ false → find p ys ≡ Some s → same x s ≡ false
        here ys none found = not-true _ (find_all (λ y. not (same x y)) ys s found (nots ys none))
          where
            nots : (ys : List A) → list_any (same x) ys ≡ false → list_all (λ y. not (same x y)) ys ≡ true
            nots [] none = refl
            nots (y ∷ ys) none = let both = or_parts (same x y) _ none in and_from _ _ (not_from_false _ both.0) (nots ys both.1)

        by : (b : Bool) → p x ≡ b → cond b (Some x) (find p xs) ≡ Some s → list_any (both_pass x) xs ≡ false → list_any (same x) xs ≡ false
            → (find p xs ≡ Some s → list_any (same s) (filter (λ x. not (p x)) xs) ≡ false)
            → list_any (same s) (cond (not b) (x ∷ filter (λ x. not (p x)) xs) (filter (λ x. not (p x)) xs)) ≡ false
        by true is found none apart more =
            let equal : x ≡ s = cc in
            ap (λ t. list_any (same t) (filter (λ x. not (p x)) xs)) (sym equal) ∙ ap (list_any (same x)) (all_kept xs (none_more x is xs none)) ∙ apart
        by false is found none apart more = or_from (same s x) _ (flip s x ∙ here xs apart found) (more found)

    -- an element that is apart from all others is put in place of the one that passes
    pub distinct_edit : (t : A) (xs : List A) → are_distinct both_pass xs ≡ true → are_distinct same xs ≡ true → list_any (same t) (filter (λ x. not (p x)) xs) ≡ false
        → are_distinct same (map (λ x. cond (p x) t x) xs) ≡ true
    distinct_edit t [] one apart none = refl
    distinct_edit t (x ∷ xs) one apart none =
        let first = and_parts (not (list_any (both_pass x) xs)) _ one in
        let parts = and_parts (not (list_any (same x) xs)) _ apart in
        by (p x) refl none (not-true _ first.0) (not-true _ parts.0) parts.1 (distinct_edit t xs first.1 parts.1)
      where
        edited : (x : A) (ys : List A) → same x t ≡ false → list_any (same x) ys ≡ false → list_any (same x) (map (λ y. cond (p y) t y) ys) ≡ false
        edited x [] fails none = refl
        edited x (y ∷ ys) fails none = let both = or_parts (same x y) _ none in or_from _ _ (at (p y) both.0) (edited x ys fails both.1)
          where
            at : (b : Bool) → same x y ≡ false → same x (cond b t y) ≡ false
            at true fails' = fails
            at false fails' = fails'

        by : (b : Bool) → p x ≡ b → list_any (same t) (cond (not b) (x ∷ filter (λ x. not (p x)) xs) (filter (λ x. not (p x)) xs)) ≡ false
            → list_any (both_pass x) xs ≡ false → list_any (same x) xs ≡ false → are_distinct same xs ≡ true
            → (list_any (same t) (filter (λ x. not (p x)) xs) ≡ false → are_distinct same (map (λ x. cond (p x) t x) xs) ≡ true)
            → are_distinct same (cond b t x ∷ map (λ x. cond (p x) t x) xs) ≡ true
        by true is none one apart rest more =
            let clear : list_any p xs ≡ false = none_more x is xs one in
            let still : map (λ x. cond (p x) t x) xs ≡ xs = unchanged (λ _. t) xs clear in
            let far : list_any (same t) xs ≡ false = ap (list_any (same t)) (sym (all_kept xs clear)) ∙ none in
            and_from _ _ (not_from_false _ (ap (list_any (same t)) still ∙ far)) (ap (are_distinct same) still ∙ rest)
        by false is none one apart rest more =
            let parts = or_parts (same t x) _ none in
            and_from _ _ (not_from_false _ (edited x xs (flip x t ∙ parts.0) apart)) (more parts.1)

-- ---- the element at a place

module _ {A : Type 0} (f : A → A) where
  -- the element at a place is changed, where there is one
  abbrev pub placed : ℕ → List A → List A
  placed place xs = option_map_or (λ x. slice_set xs place (f x)) (slice_get xs place) xs

  placed-later : (place : ℕ) (x : A) (xs : List A) → placed (suc place) (x ∷ xs) ≡ x ∷ placed place xs
  placed-later place x xs = by (slice_get xs place)
    where
      by : (o : Option A) → option_map_or (λ y. x ∷ slice_set xs place (f y)) o (x ∷ xs) ≡ x ∷ option_map_or (λ y. slice_set xs place (f y)) o xs
      by None = refl
      by (Some y) = refl

  pub all_placed : (q : A → Bool) → ((x : A) → q x ≡ true → q (f x) ≡ true) → (place : ℕ) (xs : List A) → list_all q xs ≡ true → list_all q (placed place xs) ≡ true
  all_placed q kept place [] all = all
  all_placed q kept zero (x ∷ xs) all = let parts = and_parts (q x) _ all in and_from _ _ (kept x parts.0) parts.1
  all_placed q kept (suc place) (x ∷ xs) all =
      let parts = and_parts (q x) _ all in ap (list_all q) (placed-later place x xs) ∙ and_from _ _ parts.0 (all_placed q kept place xs parts.1)

  pub any_placed : (q : A → Bool) → ((x : A) → q (f x) ≡ q x) → (place : ℕ) (xs : List A) → list_any q (placed place xs) ≡ list_any q xs
  any_placed q kept place [] = refl
  any_placed q kept zero (x ∷ xs) = ap (λ b. b || list_any q xs) (kept x)
  any_placed q kept (suc place) (x ∷ xs) = ap (list_any q) (placed-later place x xs) ∙ ap (λ b. q x || b) (any_placed q kept place xs)

  pub distinct_placed : (same : A → A → Bool) → ((x y : A) → same (f x) y ≡ same x y) → ((x y : A) → same x (f y) ≡ same x y) → (place : ℕ) (xs : List A)
      → are_distinct same (placed place xs) ≡ are_distinct same xs
  distinct_placed same left right place [] = refl
  distinct_placed same left right zero (x ∷ xs) = λ i. not (list_any (λ y. left x y i) xs) && are_distinct same xs
  distinct_placed same left right (suc place) (x ∷ xs) =
      ap (are_distinct same) (placed-later place x xs)
      ∙ ap₂ (λ found rest. not found && rest) (any_placed (same x) (right x) place xs) (distinct_placed same left right place xs)
