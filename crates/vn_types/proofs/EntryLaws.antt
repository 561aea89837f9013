-- Lists of keys with their values: what is found after each change, and that they stay in order.
use Rattle.std.proofs.Common.{◌≡◌, ◌≢◌, Bool, true, false, cond, ◌||◌, List, [], ◌∷◌, Option, Some, None, refl, sym, ap, subst, ◌∙◌, arith}
use Rattle.std.specs.Prelude.{if◌then◌else◌}
use Rattle.std.specs.Bool.{Decides}
use Rattle.std.specs.Option.{option_map, is_some}
use Rattle.std.specs.Ordering.{is_eq, match_ordering, ordering_reverse}
use Rattle.std.specs.declared.cmp.Ordering.{Ordering}
use Rattle.std.specs.declared.cmp.Ordering.TheVariants.{Less, Equal, Greater}
use Rattle.std.specs.Cmp.{IsTotalOrder}
use Rattle.std.specs.List.{AllByRecursion, list_any}
use Rattle.std.specs.List.Sorted.{IsStrictlySortedBy}
use Rattle.std.specs.Map.{lookup, set_value, keys_of}
use Rattle.std.specs.BTreeMap.{is_at, insert_entry}
use Rattle.std.proofs.lemmas.List.Elements.{All-from_recursion, recursion_from_All}
use Rattle.std.proofs.lemmas.Map.Views.{All-keys-insert_entry}
use Rattle.vn_types.specs.OctetOrder.{self_equal}
use Rattle.vn_types.specs.Entries.{find, put, each, put_all}

-- ---- what holds of the keys

module _ {K V : Type 0} (cmp : K → K → Ordering) where
  -- what holds of each key and of a new one holds after it is put in
  pub all_keys-insert_entry : (P : K → Type 0) (k : K) (v : V) (es : List (K × V)) → P k → AllByRecursion P (keys_of es) → AllByRecursion P (keys_of (insert_entry cmp es k v))
  all_keys-insert_entry P k v es here all = recursion_from_All P _ (All-keys-insert_entry cmp k v P es (All-from_recursion P _ all) here)

  -- what holds of each entry's key and of a new one, where a list's entries are looked at and not its keys
  pub all-insert_entry : (P : K → Type 0) (k : K) (v : V) (es : List (K × V)) → P k → AllByRecursion (λ (e : K × V). P e.0) es → AllByRecursion (λ (e : K × V). P e.0) (insert_entry cmp es k v)
  all-insert_entry P k v [] here all = (here, tt)
  all-insert_entry P k v (e ∷ es) here all = by (cmp k e.0) (all-insert_entry P k v es here all.1)
    where
      by : (r : Ordering) → AllByRecursion (λ (e : K × V). P e.0) (insert_entry cmp es k v) → AllByRecursion (λ (e : K × V). P e.0) (match_ordering r ((k, v) ∷ e ∷ es) ((e.0, v) ∷ es) (e ∷ insert_entry cmp es k v))
      by Less more = (here, all)
      by Equal more = all
      by Greater more = (all.0, more)

module _ {K V W : Type 0} where
  pub keys_of-each : (f : K → V → W) (es : List (K × V)) → keys_of (each f es) ≡ keys_of es
  unfolding each
  keys_of-each f [] = refl
  keys_of-each f (e ∷ es) = ap (λ ks. e.0 ∷ ks) (keys_of-each f es)

-- ---- the order of the keys

module _ {K : Type 0} (cmp : K → K → Ordering) (o : IsTotalOrder cmp) where
  -- a key below the first key is below them all
  pub below_all : (k e : K) (ks : List K) → cmp k e ≡ Less → AllByRecursion (λ y. cmp e y ≡ Less) ks → AllByRecursion (λ y. cmp k y ≡ Less) ks
  below_all k e [] less above = tt
  below_all k e (y ∷ ks) less above = (o.trans k e y less above.0, below_all k e ks less above.1)

  -- the keys stay in order where an entry is inserted
  pub IsStrictlySortedBy-insert_entry : {V : Type 0} (k : K) (v : V) (es : List (K × V)) → IsStrictlySortedBy cmp (keys_of es) → IsStrictlySortedBy cmp (keys_of (insert_entry cmp es k v))
  unfolding IsStrictlySortedBy
  IsStrictlySortedBy-insert_entry k v [] sorted = (tt, tt)
  IsStrictlySortedBy-insert_entry k v (e ∷ es) sorted = by (cmp k e.0) refl (IsStrictlySortedBy-insert_entry k v es sorted.1)
    where
      by : (r : Ordering) → cmp k e.0 ≡ r → IsStrictlySortedBy cmp (keys_of (insert_entry cmp es k v))
          → IsStrictlySortedBy cmp (keys_of (match_ordering r ((k, v) ∷ e ∷ es) ((e.0, v) ∷ es) (e ∷ insert_entry cmp es k v)))
      by Less less more = ((less, below_all k e.0 (keys_of es) less sorted.0), sorted)
      by Equal same more = sorted
      by Greater greater more = (all_keys-insert_entry cmp (λ y. cmp e.0 y ≡ Less) k v es (o.antisymm e.0 k ∙ ap ordering_reverse greater) sorted.0, more)

  pub sorted-put : {V : Type 0} (k : K) (v : V) (es : List (K × V)) → IsStrictlySortedBy cmp (keys_of es) → IsStrictlySortedBy cmp (keys_of (put cmp k v es))
  unfolding put
  sorted-put k v es sorted = IsStrictlySortedBy-insert_entry k v es sorted

  not_below : {V : Type 0} (k : K) (es : List (K × V)) → AllByRecursion (λ y. cmp k y ≡ Less) (keys_of es) → lookup (is_at (cmp k)) es ≡ None
  not_below k [] above = refl
  not_below k (e ∷ es) above = rw above.0 (not_below k es above.1)

  -- to set the value of a key that is there is to insert it
  pub set_value-insert_entry : {V : Type 0} (k : K) (es : List (K × V)) (v w : V) → IsStrictlySortedBy cmp (keys_of es) → lookup (is_at (cmp k)) es ≡ Some v → set_value (is_at (cmp k)) es w ≡ insert_entry cmp es k w
  unfolding IsStrictlySortedBy
  set_value-insert_entry k [] v w sorted there = cc
  set_value-insert_entry {V} k (e ∷ es) v w sorted there = by (cmp k e.0) refl there (set_value-insert_entry k es v w sorted.1)
    where
      by : (r : Ordering) → cmp k e.0 ≡ r → cond (is_eq r) (Some e.1) (lookup (is_at (cmp k)) es) ≡ Some v
          → (lookup (is_at (cmp k)) es ≡ Some v → set_value (is_at (cmp k)) es w ≡ insert_entry cmp es k w)
          → cond (is_eq r) ((e.0, w) ∷ es) (e ∷ set_value (is_at (cmp k)) es w) ≡ match_ordering r ((k, w) ∷ e ∷ es) ((e.0, w) ∷ es) (e ∷ insert_entry cmp es k w)
      by Less less found more = let none : lookup (is_at (cmp k)) es ≡ None = not_below k es (below_all k e.0 (keys_of es) less sorted.0) in cc
      by Equal same found more = refl
      by Greater greater found more = ap (λ rest. e ∷ rest) (more found)

  itself : (k : K) → cmp k k ≡ Equal
  itself k = self_equal (cmp k k) (o.antisymm k k)

  less_apart : (k y : K) → cmp k y ≡ Less → y ≢ k
  less_apart k y less same = let equal : cmp k y ≡ Equal = rw same (itself k) in cc

  greater_apart : (k y : K) → cmp k y ≡ Greater → y ≢ k
  greater_apart k y greater same = let equal : cmp k y ≡ Equal = rw same (itself k) in cc

  module _ (exact : (x y : K) → cmp x y ≡ Equal → x ≡ y) {V W : Type 0} (f g : K → V → W) (k : K) (others : (q : K) → q ≢ k → (v : V) → g q v ≡ f q v) where
    each-above : (es : List (K × V)) → AllByRecursion (λ y. cmp k y ≡ Less) (keys_of es) → each g es ≡ each f es
    unfolding each
    each-above [] above = refl
    each-above (e ∷ es) above = λ i. (e.0, others e.0 (less_apart k e.0 above.0) e.1 i) ∷ each-above es above.1 i

    -- the value at one key changes, and what the other values are made from stays
    pub each-put : (v : V) (es : List (K × V)) → IsStrictlySortedBy cmp (keys_of es) → each g (put cmp k v es) ≡ put cmp k (g k v) (each f es)
    unfolding each put IsStrictlySortedBy
    each-put v [] sorted = refl
    each-put v (e ∷ es) sorted = by (cmp k e.0) refl (each-put v es sorted.1)
      where
        by : (r : Ordering) → cmp k e.0 ≡ r → each g (insert_entry cmp es k v) ≡ insert_entry cmp (each f es) k (g k v)
            → each g (match_ordering r ((k, v) ∷ e ∷ es) ((e.0, v) ∷ es) (e ∷ insert_entry cmp es k v))
            ≡ match_ordering r ((k, g k v) ∷ (e.0, f e.0 e.1) ∷ each f es) ((e.0, g k v) ∷ each f es) ((e.0, f e.0 e.1) ∷ insert_entry cmp (each f es) k (g k v))
        by Less less more = λ i. (k, g k v) ∷ (e.0, others e.0 (less_apart k e.0 less) e.1 i) ∷ each-above es (below_all k e.0 (keys_of es) less sorted.0) i
        by Equal equal more =
            let same : e.0 ≡ k = sym (exact k e.0 equal) in
            let above = subst (λ q. AllByRecursion (λ y. cmp q y ≡ Less) (keys_of es)) same sorted.0 in
            λ i. (e.0, g (same i) v) ∷ each-above es above i
        by Greater greater more = λ i. (e.0, others e.0 (greater_apart k e.0 greater) e.1 i) ∷ more i

-- ---- what is found

module _ {K V : Type 0} (cmp : K → K → Ordering) {eq : K → K → Bool} (decides : (a b : K) → Decides (eq a b) (a ≡ b)) (ties : (a b : K) → eq a b ≡ is_eq (cmp a b)) where
  pub find-put : (k : K) (v : V) (es : List (K × V)) (q : K) → find cmp q (put cmp k v es) ≡ (if eq q k then Some v else find cmp q es)
  unfolding find put
  find-put k v [] q = rw (ties q k) refl
  find-put k v (e ∷ es) q = by (cmp k e.0) refl (find-put k v es q)
    where
      by : (r : Ordering) → cmp k e.0 ≡ r → find cmp q (put cmp k v es) ≡ (if eq q k then Some v else find cmp q es)
          → find cmp q (match_ordering r ((k, v) ∷ e ∷ es) ((e.0, v) ∷ es) (e ∷ put cmp k v es)) ≡ (if eq q k then Some v else find cmp q (e ∷ es))
      by Less f more = rw (ties q k) refl
      by Equal f more =
          let same : k ≡ e.0 = (decides k e.0).0 (ties k e.0 ∙ ap is_eq f) in
          grind (arith, ties q k, ap (eq q) same, ap (cmp q) same)
      by Greater f more = grind (arith, decides k e.0, decides q e.0, decides q k, ties k e.0, ties q e.0, ties q k, ap is_eq f)

  -- what is found is made from what was found
  pub find-each : {W : Type 0} (f : K → V → W) (es : List (K × V)) (q : K) → find cmp q (each f es) ≡ option_map (f q) (find cmp q es)
  unfolding find each
  find-each f [] q = refl
  find-each f (e ∷ es) q = by (eq q e.0) refl (find-each f es q)
    where
      by : (b : Bool) → eq q e.0 ≡ b → find cmp q (each f es) ≡ option_map (f q) (find cmp q es) → find cmp q (each f (e ∷ es)) ≡ option_map (f q) (find cmp q (e ∷ es))
      by true is more = let at : is_eq (cmp q e.0) ≡ true = sym (ties q e.0) ∙ is in rw at (ap (λ k. Some (f k e.1)) (sym ((decides q e.0).0 is)))
      by false is more = let at : is_eq (cmp q e.0) ≡ false = sym (ties q e.0) ∙ is in rw at more

  -- a key is found where one of the two lists has it
  pub found-put_all : (es more : List (K × V)) (q : K) → is_some (find cmp q (put_all cmp es more)) ≡ (is_some (find cmp q es) || is_some (find cmp q more))
  unfolding put_all find
  found-put_all es [] q = by (is_some (find cmp q es))
    where
      by : (b : Bool) → b ≡ (b || false)
      by true = refl
      by false = refl
  found-put_all es (e ∷ more) q =
      found-put_all (put cmp e.0 e.1 es) more q ∙ ap (λ o. is_some o || is_some (find cmp q more)) (find-put e.0 e.1 es q)
      ∙ by (eq q e.0) (find cmp q es) ∙ ap (λ b. is_some (find cmp q es) || is_some (if b then Some e.1 else find cmp q more)) (ties q e.0)
    where
      by : (b : Bool) (o : Option V) → (is_some (if b then Some e.1 else o) || is_some (find cmp q more)) ≡ (is_some o || is_some (if b then Some e.1 else find cmp q more))
      by true None = refl
      by true (Some v) = refl
      by false o = refl

module _ {K V : Type 0} (cmp : K → K → Ordering) {eq : K → K → Bool} (ties : (a b : K) → eq a b ≡ is_eq (cmp a b)) where
  -- a key is listed where it is found
  pub listed-find : (k : K) (es : List (K × V)) → list_any (eq k) (keys_of es) ≡ is_some (find cmp k es)
  unfolding find
  listed-find k [] = refl
  listed-find k (e ∷ es) = by (is_eq (cmp k e.0)) (ties k e.0) (listed-find k es)
    where
      by : (b : Bool) → eq k e.0 ≡ b → list_any (eq k) (keys_of es) ≡ is_some (find cmp k es)
          → (eq k e.0 || list_any (eq k) (keys_of es)) ≡ is_some (cond b (Some e.1) (find cmp k es))
      by true f ih = ap (λ b. b || list_any (eq k) (keys_of es)) f
      by false f ih = ap (λ b. b || list_any (eq k) (keys_of es)) f ∙ ih
