-- The order of the sockets of a stack by their ports: where one is put, and where one is taken away.
use Rattle.std.proofs.Common.{◌≡◌, ℕ, zero, suc, ◌<◌, ◌≤◌, Bool, true, false, cond, not, ◌&&◌, ◌||◌, ◌==◌, Result, Ok, Err, is_ok, IsOk, List, [], ◌∷◌, ◌++◌, length, get_or, take, drop, refl, sym, ap, ap₂, ◌∙◌, ◌⊎◌, inl, inr, arith}
use Rattle.std.specs.List.{AllWithin, list_any, list_all, filter}
use Rattle.std.specs.List.Sorted.{IsPartitionPoint, IsPartitionedBy}
use Rattle.std.proofs.lemmas.Bool.{and_parts, and_from, or_parts, or_from, or_cases, not-true, not_from_false, both_ways, eqb-true, cases_lt}
use Rattle.std.proofs.lemmas.Bool.Decides.{nat_tests}
use Rattle.std.proofs.lemmas.List.{drop_all, take-append-drop}
use Rattle.std.proofs.lemmas.List.Folds.{list_any-append}
use Rattle.std.proofs.Math.Seq.{drop-cons}
use Rattle.vn_rules.proofs.Kept.{none_from_all}
use Rattle.vn_sock.specs.declared.port_index.Bound.{Bound}
use Rattle.vn_sock.specs.Ports.{precedes, are_ordered, is_bound, has}

-- ---- a test before a place and from there on

module _ {A : Type 0} (p : A → Bool) where
  all-before : (xs : List A) (i : ℕ) → i ≤ length xs → AllWithin (λ y. p y ≡ true) xs 0 i → list_all p (take i xs) ≡ true
  all-before xs zero less within = refl
  all-before [] (suc i) less within = refl
  all-before (x ∷ xs) (suc i) less within =
      and_from (p x) _ (within 0 x (omega arith) (omega arith)) (all-before xs i (omega arith) (λ k d low high. within (suc k) d (omega arith) (omega arith)))

  all-after : (xs : List A) → AllWithin (λ y. p y ≡ false) xs 0 (length xs) → list_all (λ y. not (p y)) xs ≡ true
  all-after [] within = refl
  all-after (x ∷ xs) within =
      and_from (not (p x)) _ (not_from_false (p x) (within 0 x (omega arith) (omega arith))) (all-after xs (λ k d low high. within (suc k) d (omega arith) (omega arith)))

  all-from : (xs : List A) (i : ℕ) → AllWithin (λ y. p y ≡ false) xs i (length xs) → list_all (λ y. not (p y)) (drop i xs) ≡ true
  all-from xs zero within = all-after xs within
  all-from [] (suc i) within = refl
  all-from (x ∷ xs) (suc i) within = all-from xs i (λ k d low high. within (suc k) d (omega arith) (omega arith))

  -- those before the place that a search answers, and those from there on
  pub cut : (ys xs : List A) (i : ℕ) → ys ≡ xs → i ≤ length ys → IsPartitionPoint (λ y. p y ≡ true) (λ y. p y ≡ false) ys i
      → (list_all p (take i xs) ≡ true) × (list_all (λ y. not (p y)) (drop i xs) ≡ true)
  cut ys xs i is within point =
      (ap (λ zs. list_all p (take i zs)) (sym is) ∙ all-before ys i within point.0, ap (λ zs. list_all (λ y. not (p y)) (drop i zs)) (sym is) ∙ all-from ys i point.1)

  all-at : (xs : List A) (k : ℕ) (d : A) → list_all p xs ≡ true → k < length xs → p (get_or xs k d) ≡ true
  all-at [] k d all less = absurd (omega arith)
  all-at (x ∷ xs) zero d all less = (and_parts (p x) _ all).0
  all-at (x ∷ xs) (suc k) d all less = all-at xs k d (and_parts (p x) _ all).1 (omega arith)

  -- ---- one between others

  all-between : (x : A) (fs bs : List A) → list_all p (fs ++ bs) ≡ true → p x ≡ true → list_all p (fs ++ x ∷ bs) ≡ true
  all-between x [] bs all here = and_from (p x) _ here all
  all-between x (a ∷ fs) bs all here = let parts = and_parts (p a) _ all in and_from (p a) _ parts.0 (all-between x fs bs parts.1 here)

  all-without : (x : A) (fs bs : List A) → list_all p (fs ++ x ∷ bs) ≡ true → (p x ≡ true) × (list_all p (fs ++ bs) ≡ true)
  all-without x [] bs all = and_parts (p x) _ all
  all-without x (a ∷ fs) bs all =
      let parts = and_parts (p a) _ all in let rest = all-without x fs bs parts.1 in (rest.0, and_from (p a) _ parts.0 rest.1)

  any-between : (x : A) (fs bs : List A) → list_any p (fs ++ x ∷ bs) ≡ (p x || list_any p (fs ++ bs))
  any-between x [] bs = refl
  any-between x (a ∷ fs) bs = ap (λ rest. p a || rest) (any-between x fs bs) ∙ by (p a) (p x)
    where
      by : (b c : Bool) → (b || (c || list_any p (fs ++ bs))) ≡ (c || (b || list_any p (fs ++ bs)))
      by true true = refl
      by true false = refl
      by false true = refl
      by false false = refl

  pub filter-all : (xs : List A) → list_all p xs ≡ true → filter p xs ≡ xs
  filter-all [] all = refl
  filter-all (x ∷ xs) all = let parts = and_parts (p x) _ all in rw parts.0 (ap (λ ys. x ∷ ys) (filter-all xs parts.1))

  pub filter-none : (xs : List A) → list_any p xs ≡ false → filter p xs ≡ []
  filter-none [] none = refl
  filter-none (x ∷ xs) none = let parts = or_parts (p x) _ none in rw parts.0 (filter-none xs parts.1)

-- ---- the order

precedes-trans : (a b c : Bound) → precedes a b ≡ true → precedes b c ≡ true → precedes a c ≡ true
precedes-trans a b c first second = grind (arith, nat_tests)

-- what is neither before another nor the other comes after it
comes-after : (a b : Bound) → precedes a b ≡ false → is_bound b.port b.place a ≡ false → precedes b a ≡ true
comes-after a b before same = grind (arith, nat_tests)

before-other : (a b : Bound) → precedes a b ≡ true → is_bound b.port b.place a ≡ false
before-other a b before = grind (arith, nat_tests)

after-other : (a b : Bound) → precedes b a ≡ true → is_bound b.port b.place a ≡ false
after-other a b before = grind (arith, nat_tests)

bound-is : (a b : Bound) → is_bound b.port b.place a ≡ true → a ≡ b
bound-is a b is =
    let parts = and_parts (a.port == b.port) _ is in
    let first : a.port ≡ b.port = eqb-true a.port b.port parts.0 in
    let second : a.place ≡ b.place = eqb-true a.place b.place parts.1 in
    ap₂ (λ (q : ℕ) (k : ℕ). let c : Bound = record { port = q; place = k } in c) first second

-- a test that passes for all before one that passes
pub partitioned : (p : Bound → Bool) → ((a b : Bound) → precedes a b ≡ true → p b ≡ true → p a ≡ true) → (bs : List Bound) → are_ordered bs ≡ true → IsPartitionedBy p bs
partitioned p down [] ordered = λ i j d le less is. absurd (omega arith)
partitioned p down (b ∷ bs) ordered =
    let parts = and_parts (list_all (precedes b) bs) _ ordered in
    by parts.0 (partitioned p down bs parts.1)
  where
    by : list_all (precedes b) bs ≡ true → IsPartitionedBy p bs → (i j : ℕ) (d : Bound) → i ≤ j → j < length (b ∷ bs) → p (get_or (b ∷ bs) j d) ≡ true → p (get_or (b ∷ bs) i d) ≡ true
    by first rest zero zero d le less is = is
    by first rest zero (suc j) d le less is = down b (get_or bs j d) (all-at (precedes b) bs j d first (omega arith)) is
    by first rest (suc i) zero d le less is = absurd (omega arith)
    by first rest (suc i) (suc j) d le less is = rest i j d (omega arith) (omega arith) is

pub ordered-after : (fs bs : List Bound) → are_ordered (fs ++ bs) ≡ true → are_ordered bs ≡ true
ordered-after [] bs ordered = ordered
ordered-after (a ∷ fs) bs ordered = ordered-after fs bs (and_parts (list_all (precedes a) (fs ++ bs)) _ ordered).1

pub ordered-before : (fs bs : List Bound) → are_ordered (fs ++ bs) ≡ true → are_ordered fs ≡ true
ordered-before [] bs ordered = refl
ordered-before (a ∷ fs) bs ordered =
    let parts = and_parts (list_all (precedes a) (fs ++ bs)) _ ordered in
    and_from _ _ (all-append-left (precedes a) fs bs parts.0) (ordered-before fs bs parts.1)
  where
    all-append-left : (p : Bound → Bool) (xs ys : List Bound) → list_all p (xs ++ ys) ≡ true → list_all p xs ≡ true
    all-append-left p [] ys all = refl
    all-append-left p (x ∷ xs) ys all = let parts = and_parts (p x) _ all in and_from (p x) _ parts.0 (all-append-left p xs ys parts.1)

module _ (b : Bound) where
  -- whether one comes before it
  abbrev pub before : Bound → Bool
  before a = precedes a b

  pub before-partitioned : (bs : List Bound) → are_ordered bs ≡ true → IsPartitionedBy before bs
  before-partitioned bs ordered = partitioned before (λ a c first second. precedes-trans a c b first second) bs ordered

  ordered-between : (fs bs : List Bound) → are_ordered (fs ++ bs) ≡ true → list_all before fs ≡ true → list_all (precedes b) bs ≡ true → are_ordered (fs ++ b ∷ bs) ≡ true
  ordered-between [] bs ordered left right = and_from _ _ right ordered
  ordered-between (a ∷ fs) bs ordered left right =
      let parts = and_parts (list_all (precedes a) (fs ++ bs)) _ ordered in
      let here = and_parts (precedes a b) _ left in
      and_from _ _ (all-between (precedes a) b fs bs parts.0 here.0) (ordered-between fs bs parts.1 here.1 right)

  ordered-without : (fs bs : List Bound) → are_ordered (fs ++ b ∷ bs) ≡ true → are_ordered (fs ++ bs) ≡ true
  ordered-without [] bs ordered = (and_parts (list_all (precedes b) bs) _ ordered).1
  ordered-without (a ∷ fs) bs ordered =
      let parts = and_parts (list_all (precedes a) (fs ++ b ∷ bs)) _ ordered in
      and_from _ _ (all-without (precedes a) b fs bs parts.0).1 (ordered-without fs bs parts.1)

  ordered-around : (fs bs : List Bound) → are_ordered (fs ++ b ∷ bs) ≡ true → (list_all before fs ≡ true) × (list_all (precedes b) bs ≡ true)
  ordered-around [] bs ordered = (refl, (and_parts (list_all (precedes b) bs) _ ordered).0)
  ordered-around (a ∷ fs) bs ordered =
      let parts = and_parts (list_all (precedes a) (fs ++ b ∷ bs)) _ ordered in
      let rest = ordered-around fs bs parts.1 in
      (and_from _ _ (all-without (precedes a) b fs bs parts.0).0 rest.0, rest.1)

  all-come-after : (bs : List Bound) → list_all (λ a. not (precedes a b)) bs ≡ true → has b.port b.place bs ≡ false → list_all (precedes b) bs ≡ true
  all-come-after [] after none = refl
  all-come-after (a ∷ bs) after none =
      let parts = and_parts (not (precedes a b)) _ after in
      let apart = or_parts (is_bound b.port b.place a) _ none in
      and_from _ _ (comes-after a b (not-true _ parts.0) apart.0) (all-come-after bs parts.1 apart.1)

  -- the test passes for it, where it passes for all and it is one of them
  passes : (p : Bound → Bool) (bs : List Bound) → list_all p bs ≡ true → has b.port b.place bs ≡ true → p b ≡ true
  passes p [] all is = absurd (cc)
  passes p (a ∷ bs) all is =
      let parts = and_parts (p a) _ all in
      elim (or_cases (is_bound b.port b.place a) _ is) [ inl here ↦ ap p (sym (bound-is a b here)) ∙ parts.0 | inr more ↦ passes p bs parts.1 more ]

  pub put-has : (bs : List Bound) (i q k : ℕ) → has q k (take i bs ++ b ∷ drop i bs) ≡ (is_bound q k b || has q k bs)
  put-has bs i q k = any-between (is_bound q k) b (take i bs) (drop i bs) ∙ ap (λ rest. is_bound q k b || has q k rest) (take-append-drop i bs)

  module _ (bs : List Bound) (i : ℕ) (ordered : are_ordered bs ≡ true) (left : list_all before (take i bs) ≡ true) (right : list_all (λ a. not (before a)) (drop i bs) ≡ true) where
    whole : are_ordered (take i bs ++ drop i bs) ≡ true
    whole = ap are_ordered (take-append-drop i bs) ∙ ordered

    -- ---- it is put there

    module _ (absent : has b.port b.place bs ≡ false) where
      pub put-ordered : are_ordered (take i bs ++ b ∷ drop i bs) ≡ true
      put-ordered =
          let none : has b.port b.place (take i bs ++ drop i bs) ≡ false = ap (has b.port b.place) (take-append-drop i bs) ∙ absent in
          let parts = or_parts (has b.port b.place (take i bs)) _ (sym (list_any-append (is_bound b.port b.place) (take i bs) (drop i bs)) ∙ none) in
          ordered-between (take i bs) (drop i bs) whole left (all-come-after (drop i bs) right parts.1)

    -- ---- it is taken from there

    module _ (there : has b.port b.place bs ≡ true) where
      after-there : has b.port b.place (drop i bs) ≡ true
      after-there =
          let none : has b.port b.place (take i bs) ≡ false = none_from_all (is_bound b.port b.place) before (take i bs) (λ a is. before-other a b is) left in
          sym (ap (λ found. found || has b.port b.place (drop i bs)) none)
          ∙ sym (list_any-append (is_bound b.port b.place) (take i bs) (drop i bs)) ∙ ap (has b.port b.place) (take-append-drop i bs) ∙ there

      pub taken-within : i < length bs
      taken-within = elim (cases_lt i (length bs)) [ inl less ↦ less | inr past ↦ absurd (both_ways (has b.port b.place (drop i bs)) (ap (has b.port b.place) (drop_all i bs past)) after-there) ]

      first-there : get_or bs i b ≡ b
      first-there =
          let split : drop i bs ≡ get_or bs i b ∷ drop (suc i) bs = drop-cons bs i b taken-within in
          let found : has b.port b.place (get_or bs i b ∷ drop (suc i) bs) ≡ true = ap (has b.port b.place) (sym split) ∙ after-there in
          let order : are_ordered (get_or bs i b ∷ drop (suc i) bs) ≡ true = ap are_ordered (sym split) ∙ ordered-after (take i bs) (drop i bs) whole in
          let after : list_all (λ a. not (before a)) (get_or bs i b ∷ drop (suc i) bs) ≡ true = ap (list_all (λ a. not (before a))) (sym split) ∙ right in
          by (get_or bs i b) (or_cases (is_bound b.port b.place (get_or bs i b)) _ found) (and_parts (list_all (precedes (get_or bs i b)) (drop (suc i) bs)) _ order).0
          (not-true _ (and_parts (not (before (get_or bs i b))) _ after).0)
        where
          by : (a : Bound) → (is_bound b.port b.place a ≡ true) ⊎ (has b.port b.place (drop (suc i) bs) ≡ true) → list_all (precedes a) (drop (suc i) bs) ≡ true → precedes a b ≡ false → a ≡ b
          by a (inl here) first not_before = bound-is a b here
          by a (inr more) first not_before = absurd (both_ways (precedes a b) not_before (passes (precedes a) (drop (suc i) bs) first more))

      around : bs ≡ take i bs ++ b ∷ drop (suc i) bs
      around = sym (take-append-drop i bs) ∙ ap (λ rest. take i bs ++ rest) (drop-cons bs i b taken-within ∙ ap (λ a. a ∷ drop (suc i) bs) first-there)

      pub taken-ordered : are_ordered (take i bs ++ drop (suc i) bs) ≡ true
      taken-ordered = ordered-without (take i bs) (drop (suc i) bs) (ap are_ordered (sym around) ∙ ordered)

      gone : has b.port b.place (take i bs ++ drop (suc i) bs) ≡ false
      gone =
          let sides = ordered-around (take i bs) (drop (suc i) bs) (ap are_ordered (sym around) ∙ ordered) in
          list_any-append (is_bound b.port b.place) (take i bs) (drop (suc i) bs)
          ∙ or_from _ _ (none_from_all (is_bound b.port b.place) before (take i bs) (λ a is. before-other a b is) sides.0)
          (none_from_all (is_bound b.port b.place) (precedes b) (drop (suc i) bs) (λ a is. after-other a b is) sides.1)

      pub taken-has : (q k : ℕ) → has q k (take i bs ++ drop (suc i) bs) ≡ (not (is_bound q k b) && has q k bs)
      taken-has q k =
          by (is_bound q k b) refl
          ∙ ap (λ found. not (is_bound q k b) && found) (sym (ap (has q k) around ∙ any-between (is_bound q k) b (take i bs) (drop (suc i) bs)))
        where
          by : (is : Bool) → is_bound q k b ≡ is → has q k (take i bs ++ drop (suc i) bs) ≡ (not is && (is || has q k (take i bs ++ drop (suc i) bs)))
          by false is = refl
          by true is =
              let parts = and_parts (b.port == q) _ is in
              let first : b.port ≡ q = eqb-true b.port q parts.0 in
              let second : b.place ≡ k = eqb-true b.place k parts.1 in
              ap₂ (λ p l. has p l (take i bs ++ drop (suc i) bs)) (sym first) (sym second) ∙ gone

-- what an insertion that finds room leaves
pub inserted : {T E X : Type 0} (r : Result T E) (now a b : X) → IsOk r → now ≡ cond (is_ok r) a b → now ≡ a
inserted (Ok x) now a b ok is = is
inserted (Err e) now a b ok is = absurd (cc)
