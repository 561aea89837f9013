-- Entries by number, in order: what is found, and what a test of their values finds and leaves.
use Rattle.std.proofs.Common.{◌≡◌, ◌≢◌, ℕ, ◌<◌, Bool, true, false, not, cond, ◌==◌, List, [], ◌∷◌, ◌++◌, find, Option, Some, None, IfSome, refl, sym, subst, ap, ap₂, ◌∙◌, arith}
use Rattle.std.specs.List.{AllByRecursion, filter}
use Rattle.std.specs.List.Sorted.{IsStrictlySortedBy}
use Rattle.std.specs.BTreeMap.{is_at, insert_entry}
use Rattle.std.specs.Cmp.{unsigned_ties}
use Rattle.std.specs.Ordering.{is_eq, match_ordering, nat_cmp}
use Rattle.std.specs.declared.cmp.Ordering.{Ordering}
use Rattle.std.specs.declared.cmp.Ordering.TheVariants.{Less, Equal, Greater}
use Rattle.std.specs.Map.{keys_of, lookup, values_of, remove_entry}
use Rattle.std.specs.Option.{option_map}
use Rattle.std.proofs.lemmas.Bool.{eqb-true, eq-eqb, ne_eqb, cond-true, cond-false}
use Rattle.std.proofs.lemmas.Cmp.{ranked}
use Rattle.vn_ifnet.specs.Kept.{told}

-- ---- numbers

pub at-itself : (n : ℕ) → is_at (nat_cmp n) n ≡ true
at-itself n = sym (unsigned_ties n n) ∙ eq-eqb n n refl

pub same-at : (n k : ℕ) → is_at (nat_cmp n) k ≡ true → n ≡ k
same-at n k e = eqb-true n k (unsigned_ties n k ∙ e)

pub apart-at : (n k : ℕ) → n ≢ k → is_at (nat_cmp n) k ≡ false
apart-at n k ne = sym (unsigned_ties n k) ∙ ne_eqb n k ne

pub is_greater : (n k : ℕ) → k < n → nat_cmp n k ≡ Greater
is_greater n k less = by (nat_cmp n k) refl
  where
    by : (r : Ordering) → r ≡ nat_cmp n k → r ≡ Greater
    by Less e = let l : n < k = ranked n k Less e in absurd (omega arith)
    by Equal e = let s : n ≡ k = ranked n k Equal e in absurd (omega arith)
    by Greater e = refl

module _ {V : Type 0} where
  -- ---- what is found

  none-above : (n : ℕ) (es : List (ℕ × V)) → AllByRecursion (λ k. nat_cmp n k ≡ Less) (keys_of es) → told n es ≡ None
  none-above n [] above = refl
  none-above n (e ∷ es) above = cond-false (is_at (nat_cmp n) e.0) (Some e.1) (told n es) (ap is_eq above.0) ∙ none-above n es above.1

  -- what holds of all that is found holds of each entry
  pub each-entry : (P : ℕ → V → Type 0) (es : List (ℕ × V)) → IsStrictlySortedBy nat_cmp (keys_of es) → ((k : ℕ) → IfSome (told k es) (P k)) → AllByRecursion (λ (e : ℕ × V). P e.0 e.1) es
  unfolding IsStrictlySortedBy
  each-entry P [] ordered all = tt
  each-entry P (e ∷ es) ordered all = (here, each-entry P es ordered.1 rest)
    where
      here : P e.0 e.1
      here = subst (λ o. IfSome o (P e.0)) (cond-true (is_at (nat_cmp e.0) e.0) (Some e.1) (told e.0 es) (at-itself e.0)) (all e.0)

      rest : (k : ℕ) → IfSome (told k es) (P k)
      rest k = by (told k es) refl
        where
          by : (o : Option V) → told k es ≡ o → IfSome o (P k)
          by None is = tt
          by (Some v) is = subst (λ o. IfSome o (P k)) (cond-false (is_at (nat_cmp k) e.0) (Some e.1) (told k es) (apart-at k e.0 apart) ∙ is) (all k)
            where
              apart : k ≢ e.0
              apart same = let c : Some v ≡ None = sym is ∙ ap (λ q. told q es) same ∙ none-above e.0 es ordered.0 in cc

  pub find-none : (test : V → Bool) (es : List (ℕ × V)) → AllByRecursion (λ (e : ℕ × V). test e.1 ≡ false) es → find test (values_of es) ≡ None
  find-none test [] all = refl
  find-none test (e ∷ es) all = cond-false (test e.1) (Some e.1) (find test (values_of es)) all.0 ∙ find-none test es all.1

  -- by a test that is that of one number
  pub find-one : (test : V → Bool) (n : ℕ) (es : List (ℕ × V)) → AllByRecursion (λ (e : ℕ × V). test e.1 ≡ is_at (nat_cmp n) e.0) es → find test (values_of es) ≡ told n es
  find-one test n [] all = refl
  find-one test n (e ∷ es) all = ap₂ (λ b o. cond b (Some e.1) o) all.0 (find-one test n es all.1)

  -- a look-up by equality of numbers is one by their order
  pub by-order : (k : ℕ) (es : List (ℕ × V)) → lookup (λ q. k == q) es ≡ told k es
  by-order k es = ap (λ f. lookup f es) (λ i q. unsigned_ties k q i)

  -- ---- what is left

  pub kept-whole : (test : V → Bool) (es : List (ℕ × V)) → AllByRecursion (λ (e : ℕ × V). test e.1 ≡ false) es → filter (λ v. not (test v)) (values_of es) ≡ values_of es
  kept-whole test [] all = refl
  kept-whole test (e ∷ es) all =
      cond-true (not (test e.1)) (e.1 ∷ filter (λ v. not (test v)) (values_of es)) (filter (λ v. not (test v)) (values_of es)) (ap not all.0)
      ∙ ap (λ vs. e.1 ∷ vs) (kept-whole test es all.1)

  none-pass : (test : V → Bool) (n : ℕ) (es : List (ℕ × V)) → AllByRecursion (λ k. nat_cmp n k ≡ Less) (keys_of es) → AllByRecursion (λ (e : ℕ × V). test e.1 ≡ is_at (nat_cmp n) e.0) es → AllByRecursion (λ (e : ℕ × V). test e.1 ≡ false) es
  none-pass test n [] above all = tt
  none-pass test n (e ∷ es) above all = (all.0 ∙ ap is_eq above.0, none-pass test n es above.1 all.1)

  -- values without those that pass a test, where the test is that of one number
  pub removed : (test : V → Bool) (n : ℕ) (es : List (ℕ × V)) → IsStrictlySortedBy nat_cmp (keys_of es) → AllByRecursion (λ (e : ℕ × V). test e.1 ≡ is_at (nat_cmp n) e.0) es
      → values_of (remove_entry (is_at (nat_cmp n)) es) ≡ filter (λ v. not (test v)) (values_of es)
  unfolding IsStrictlySortedBy
  removed test n [] ordered all = refl
  removed test n (e ∷ es) ordered all = by (is_at (nat_cmp n) e.0) refl (removed test n es ordered.1 all.1)
    where
      by : (b : Bool) → is_at (nat_cmp n) e.0 ≡ b → values_of (remove_entry (is_at (nat_cmp n)) es) ≡ filter (λ v. not (test v)) (values_of es)
          → values_of (cond b es (e ∷ remove_entry (is_at (nat_cmp n)) es)) ≡ cond (not (test e.1)) (e.1 ∷ filter (λ v. not (test v)) (values_of es)) (filter (λ v. not (test v)) (values_of es))
      by true is rest =
          sym (kept-whole test es (none-pass test n es (subst (λ q. AllByRecursion (λ k. nat_cmp q k ≡ Less) (keys_of es)) (sym (same-at n e.0 is)) ordered.0) all.1))
          ∙ sym (cond-false (not (test e.1)) (e.1 ∷ filter (λ v. not (test v)) (values_of es)) (filter (λ v. not (test v)) (values_of es)) (ap not (all.0 ∙ is)))
      by false is rest = ap (λ vs. e.1 ∷ vs) rest ∙ sym (cond-true (not (test e.1)) (e.1 ∷ filter (λ v. not (test v)) (values_of es)) (filter (λ v. not (test v)) (values_of es)) (ap not (all.0 ∙ is)))

  -- ---- behind all others

  pub none-below : (n : ℕ) (es : List (ℕ × V)) → AllByRecursion (λ k. k < n) (keys_of es) → told n es ≡ None
  none-below n [] below = refl
  none-below n (e ∷ es) below = cond-false (is_at (nat_cmp n) e.0) (Some e.1) (told n es) (ap is_eq (is_greater n e.0 below.0)) ∙ none-below n es below.1

  -- a number above all others goes last
  pub insert-last : (n : ℕ) (v : V) (es : List (ℕ × V)) → AllByRecursion (λ k. k < n) (keys_of es) → insert_entry nat_cmp es n v ≡ es ++ (n, v) ∷ []
  insert-last n v [] below = refl
  insert-last n v (e ∷ es) below =
      ap (λ r. match_ordering r ((n, v) ∷ e ∷ es) ((e.0, v) ∷ es) (e ∷ insert_entry nat_cmp es n v)) (is_greater n e.0 below.0)
      ∙ ap (λ xs. e ∷ xs) (insert-last n v es below.1)

  pub values-push : (es : List (ℕ × V)) (k : ℕ) (v : V) → values_of (es ++ (k, v) ∷ []) ≡ values_of es ++ v ∷ []
  values-push [] k v = refl
  values-push (e ∷ es) k v = ap (λ vs. e.1 ∷ vs) (values-push es k v)

  -- what is put in last stays last where another number is taken out
  pub remove-append : (test : ℕ → Bool) (es : List (ℕ × V)) (e : ℕ × V) → test e.0 ≡ false → remove_entry test (es ++ e ∷ []) ≡ remove_entry test es ++ e ∷ []
  remove-append test [] e fails = ap (λ b. cond b [] (e ∷ [])) fails
  remove-append test (x ∷ es) e fails = by (test x.0) (remove-append test es e fails)
    where
      by : (b : Bool) → remove_entry test (es ++ e ∷ []) ≡ remove_entry test es ++ e ∷ [] → cond b (es ++ e ∷ []) (x ∷ remove_entry test (es ++ e ∷ [])) ≡ cond b es (x ∷ remove_entry test es) ++ e ∷ []
      by true more = refl
      by false more = ap (λ xs. x ∷ xs) more

  -- and is taken out again
  pub remove-pushed : (n : ℕ) (v : V) (es : List (ℕ × V)) → AllByRecursion (λ k. k < n) (keys_of es) → remove_entry (is_at (nat_cmp n)) (es ++ (n, v) ∷ []) ≡ es
  remove-pushed n v [] below = ap (λ b. cond b [] ((n, v) ∷ [])) (at-itself n)
  remove-pushed n v (e ∷ es) below =
      cond-false (is_at (nat_cmp n) e.0) (es ++ (n, v) ∷ []) (e ∷ remove_entry (is_at (nat_cmp n)) (es ++ (n, v) ∷ [])) (ap is_eq (is_greater n e.0 below.0))
      ∙ ap (λ xs. e ∷ xs) (remove-pushed n v es below.1)

pub map-none : {X Y : Type 0} (f : X → Y) (o : Option X) → option_map f o ≡ None → o ≡ None
map-none f None e = refl
map-none f (Some x) e = cc
