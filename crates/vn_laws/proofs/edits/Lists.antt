-- Sorted lists are told apart by their members.
use Rattle.std.proofs.Common.{◌≡◌, ◌+◌, Bool, true, false, ◌&&◌, ◌||◌, not, cond, List, [], ◌∷◌, length, Some, None, refl, sym, ap, ◌∙◌, subst, arith}
use Rattle.std.specs.Prelude.{filter, if◌then◌else◌}
use Rattle.std.specs.Map.{keys_of}
use Rattle.std.specs.List.{list_any, AllByRecursion}
use Rattle.std.specs.List.Sorted.{IsStrictlySortedBy}
use Rattle.std.specs.Bool.{Decides}
use Rattle.std.specs.Cmp.{IsTotalOrder}
use Rattle.std.specs.Ordering.{is_eq, ordering_reverse}
use Rattle.std.specs.declared.cmp.Ordering.{Ordering}
use Rattle.std.specs.declared.cmp.Ordering.TheVariants.{Less, Equal, Greater}
use Rattle.std.proofs.lemmas.List.Kept.{IsStrictlySortedBy-filter}
use Rattle.std.proofs.lemmas.Bool.{true≢false}
use Rattle.vn_types.specs.Entries.{find}
use Rattle.vn_types.proofs.EntryLaws.{below_all}

module _ {K : Type 0} (cmp : K → K → Ordering) {eq : K → K → Bool} (o : IsTotalOrder cmp) (decides : (a b : K) → Decides (eq a b) (a ≡ b)) (ties : (a b : K) → eq a b ≡ is_eq (cmp a b)) where
  pub eq-Less : (a b : K) → cmp a b ≡ Less → eq a b ≡ false
  eq-Less a b e = ties a b ∙ ap is_eq e

  pub any-above_all : (k : K) (ks : List K) → AllByRecursion (λ y. cmp k y ≡ Less) ks → list_any (eq k) ks ≡ false
  any-above_all k [] all = refl
  any-above_all k (y ∷ ks) all = grind (arith, eq-Less k y all.0, any-above_all k ks all.1)

  -- what is below the first is not in the list
  not_first : (k y : K) (ys : List K) → IsStrictlySortedBy cmp (y ∷ ys) → cmp k y ≡ Less → list_any (eq k) (y ∷ ys) ≡ false
  unfolding IsStrictlySortedBy
  not_first k y ys s less = grind (arith, eq-Less k y less, any-above_all k ys (below_all cmp o k y ys less s.0))

  turned : (x y : K) → cmp x y ≡ Greater → cmp y x ≡ Less
  turned x y f = o.antisymm y x ∙ ap ordering_reverse f

  self : (k : K) (ks : List K) → list_any (eq k) (k ∷ ks) ≡ true
  self k ks = grind (arith, decides k k)

  same_first : (x y : K) (xs ys : List K) → IsStrictlySortedBy cmp (x ∷ xs) → IsStrictlySortedBy cmp (y ∷ ys) → ((k : K) → list_any (eq k) (x ∷ xs) ≡ list_any (eq k) (y ∷ ys)) → (r : Ordering) → cmp x y ≡ r → x ≡ y
  same_first x y xs ys s t e Less f = absurd (true≢false (sym (self x xs) ∙ e x ∙ not_first x y ys t f))
  same_first x y xs ys s t e Equal f = (decides x y).0 (ties x y ∙ ap is_eq f)
  same_first x y xs ys s t e Greater f = absurd (true≢false (sym (self y ys) ∙ sym (e y) ∙ not_first y x xs s (turned x y f)))

  tails : (x : K) (xs ys : List K) → IsStrictlySortedBy cmp (x ∷ xs) → IsStrictlySortedBy cmp (x ∷ ys) → ((k : K) → list_any (eq k) (x ∷ xs) ≡ list_any (eq k) (x ∷ ys)) → (k : K) → list_any (eq k) xs ≡ list_any (eq k) ys
  unfolding IsStrictlySortedBy
  tails x xs ys s t e k = by (eq k x) refl
    where
      by : (b : Bool) → eq k x ≡ b → list_any (eq k) xs ≡ list_any (eq k) ys
      by true f = let same : k ≡ x = (decides k x).0 f in ap (λ q. list_any (eq q) xs) same ∙ any-above_all x xs s.0 ∙ sym (any-above_all x ys t.0) ∙ ap (λ q. list_any (eq q) ys) (sym same)
      by false f = grind (arith, e k)

  pub unique : (xs ys : List K) → IsStrictlySortedBy cmp xs → IsStrictlySortedBy cmp ys → ((k : K) → list_any (eq k) xs ≡ list_any (eq k) ys) → xs ≡ ys
  unfolding IsStrictlySortedBy
  unique [] [] s t e = refl
  unique [] (y ∷ ys) s t e = absurd (true≢false (sym (self y ys) ∙ sym (e y)))
  unique (x ∷ xs) [] s t e = absurd (true≢false (sym (self x xs) ∙ e x))
  unique (x ∷ xs) (y ∷ ys) s t e =
      subst (λ z. IsStrictlySortedBy cmp (z ∷ ys) → ((k : K) → list_any (eq k) (x ∷ xs) ≡ list_any (eq k) (z ∷ ys)) → x ∷ xs ≡ z ∷ ys) (same_first x y xs ys s t e (cmp x y) refl)
      (λ t e. ap (λ ks. x ∷ ks) (unique xs ys s.1 t.1 (tails x xs ys s t e))) t e

  pub any-filter : (f : K → Bool) (k : K) (ks : List K) → list_any (eq k) (filter f ks) ≡ (f k && list_any (eq k) ks)
  any-filter f k [] = grind arith
  any-filter f k (x ∷ xs) = by (f x) refl (eq k x) refl (any-filter f k xs)
    where
      by : (a : Bool) → f x ≡ a → (b : Bool) → eq k x ≡ b → list_any (eq k) (filter f xs) ≡ (f k && list_any (eq k) xs) → list_any (eq k) (cond a (x ∷ filter f xs) (filter f xs)) ≡ (f k && (b || list_any (eq k) xs))
      by true e true g ih = grind (arith, g, ap f ((decides k x).0 g))
      by true e false g ih = grind (arith, g)
      by false e true g ih = grind (arith, ap f ((decides k x).0 g))
      by false e false g ih = ih

  -- the same keys that pass, in two sorted lists
  pub same-filter : (f : K → Bool) (xs ys : List K) → IsStrictlySortedBy cmp xs → IsStrictlySortedBy cmp ys → ((k : K) → f k ≡ true → list_any (eq k) xs ≡ list_any (eq k) ys) → filter f xs ≡ filter f ys
  same-filter f xs ys s t e =
      unique (filter f xs) (filter f ys) (IsStrictlySortedBy-filter cmp f xs s) (IsStrictlySortedBy-filter cmp f ys t)
      (λ k. any-filter f k xs ∙ by k (f k) refl ∙ sym (any-filter f k ys))
    where
      by : (k : K) (b : Bool) → f k ≡ b → (b && list_any (eq k) xs) ≡ (b && list_any (eq k) ys)
      by k true h = e k h
      by k false h = refl

  filter-absent : (f : K → Bool) (q : K) (ks : List K) → list_any (eq q) ks ≡ false → filter (λ k. f k && not (eq k q)) ks ≡ filter f ks
  filter-absent f q [] h = refl
  filter-absent f q (k ∷ ks) h =
      let apart : eq k q ≡ false = grind (arith, decides k q, decides q k, h) in
      by (f k) (eq k q) apart (filter-absent f q ks (grind (arith, h)))
    where
      by : (b c : Bool) → c ≡ false → filter (λ k. f k && not (eq k q)) ks ≡ filter f ks → cond (b && not c) (k ∷ filter (λ k. f k && not (eq k q)) ks) (filter (λ k. f k && not (eq k q)) ks) ≡ cond b (k ∷ filter f ks) (filter f ks)
      by true false e ih = ap (λ xs. k ∷ xs) ih
      by false false e ih = ih
      by b true e ih = cc

  -- one key less
  pub length-filter-but : (f : K → Bool) (q : K) (ks : List K) → IsStrictlySortedBy cmp ks → list_any (eq q) ks ≡ true → f q ≡ true → length (filter f ks) ≡ length (filter (λ k. f k && not (eq k q)) ks) + 1
  unfolding IsStrictlySortedBy
  length-filter-but f q [] s h p = cc
  length-filter-but f q (k ∷ ks) s h p = by (eq k q) refl (f k) refl (λ h. length-filter-but f q ks s.1 h p)
    where
      more : eq k q ≡ false → list_any (eq q) ks ≡ true
      more e = grind (arith, decides k q, decides q k, h)

      by : (c : Bool) → eq k q ≡ c → (b : Bool) → f k ≡ b → (list_any (eq q) ks ≡ true → length (filter f ks) ≡ length (filter (λ k. f k && not (eq k q)) ks) + 1)
          → length (cond b (k ∷ filter f ks) (filter f ks)) ≡ length (cond (b && not c) (k ∷ filter (λ k. f k && not (eq k q)) ks) (filter (λ k. f k && not (eq k q)) ks)) + 1
      by true e false g ih = let same : k ≡ q = (decides k q).0 e in absurd (true≢false (sym p ∙ ap f (sym same) ∙ g))
      by true e true g ih =
          let same : k ≡ q = (decides k q).0 e in
          let absent : list_any (eq q) ks ≡ false = ap (λ r. list_any (eq r) ks) (sym same) ∙ any-above_all k ks s.0 in
          let n : length (filter (λ k. f k && not (eq k q)) ks) ≡ length (filter f ks) = ap length (filter-absent f q ks absent) in
          omega arith
      by false e true g ih = let n = ih (more e) in omega arith
      by false e false g ih = ih (more e)

-- ---- without a key

module _ {K V : Type 0} (cmp : K → K → Ordering) {eq : K → K → Bool} (decides : (a b : K) → Decides (eq a b) (a ≡ b)) (ties : (a b : K) → eq a b ≡ is_eq (cmp a b)) where
  abbrev without : K → List (K × V) → List (K × V)
  without k es = filter (λ (e : K × V). not (eq e.0 k)) es

  pub find-without : (k : K) (es : List (K × V)) (q : K) → find cmp q (without k es) ≡ (if eq q k then None else find cmp q es)
  unfolding find
  find-without k [] q = grind arith
  find-without k (e ∷ es) q = by (eq e.0 k) refl (is_eq (cmp q e.0)) refl (find-without k es q)
    where
      by : (a : Bool) → eq e.0 k ≡ a → (b : Bool) → is_eq (cmp q e.0) ≡ b → find cmp q (without k es) ≡ (if eq q k then None else find cmp q es)
          → find cmp q (cond (not a) (e ∷ without k es) (without k es)) ≡ (if eq q k then None else cond b (Some e.1) (find cmp q es))
      by true f true g ih = let same : q ≡ k = (decides q e.0).0 (ties q e.0 ∙ g) ∙ (decides e.0 k).0 f in grind (arith, ih, (decides q k).1 same)
      by true f false g ih = let apart : eq q k ≡ false = grind (arith, decides q k, decides e.0 k, decides q e.0, ties q e.0, f, g) in grind (arith, ih, apart)
      by false f true g ih = let apart : eq q k ≡ false = grind (arith, decides q k, decides e.0 k, decides q e.0, ties q e.0, f, g) in rw (g, apart) refl
      by false f false g ih = rw g ih

pub keys_of-without : {K V : Type 0} (eq : K → K → Bool) (k : K) (es : List (K × V)) → keys_of (filter (λ (e : K × V). not (eq e.0 k)) es) ≡ filter (λ q. not (eq q k)) (keys_of es)
keys_of-without eq k [] = refl
keys_of-without {K} {V} eq k (e ∷ es) = by (not (eq e.0 k)) (keys_of-without eq k es)
  where
    by : (b : Bool) → keys_of (filter (λ (e : K × V). not (eq e.0 k)) es) ≡ filter (λ q. not (eq q k)) (keys_of es)
        → keys_of (cond b (e ∷ filter (λ (e : K × V). not (eq e.0 k)) es) (filter (λ (e : K × V). not (eq e.0 k)) es)) ≡ cond b (e.0 ∷ filter (λ q. not (eq q k)) (keys_of es)) (filter (λ q. not (eq q k)) (keys_of es))
    by true ih = ap (λ ks. e.0 ∷ ks) ih
    by false ih = ih
