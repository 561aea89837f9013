-- Entries that clash with no other, registered in any order.
use Rattle.std.proofs.Common.{◌≡◌, ℕ, zero, suc, ◌<◌, ◌⊎◌, inl, inr, Bool, false, ◌&&◌, ◌||◌, ◌==◌, List, [], ◌∷◌, ◌++◌, map, Some, refl, sym, ap, subst, ◌∙◌, arith}
use Rattle.std.specs.List.{AllByRecursion, IsDistinct, Contains, slice_index_or}
use Rattle.std.specs.List.Sorted.{IsStrictlySortedBy, IsPermutation}
use Rattle.std.specs.Option.{option_map}
use Rattle.std.specs.Ordering.{nat_cmp, ordering_then, is_eq}
use Rattle.std.specs.declared.cmp.Ordering.TheVariants.{Less}
use Rattle.std.specs.Cmp.{IsTotalOrder}
use Rattle.std.specs.Map.{keys_of}
use Rattle.std.proofs.lemmas.Bool.{or_parts}
use Rattle.std.proofs.lemmas.Bool.Decides.{nat_tests}
use Rattle.std.proofs.lemmas.Cmp.{then_total, on_total, nat_cmp_total, nat_eq_equiv, nat_list_eq_equiv, tied_itself}
use Rattle.std.proofs.lemmas.List.{append-nil}
use Rattle.std.proofs.lemmas.List.Elements.{Contains-append_cases, Contains-append_right}
use Rattle.std.proofs.lemmas.List.Sorted.{IsPermutation-sym, IsPermutation-trans, IsPermutation-middle, IsPermutation-append_right, IsPermutation-map, Contains-permutation}
use Rattle.std.proofs.lemmas.Map.Keys.{sorted_head, sorted_tail, IsDistinct-head, IsDistinct-IsPermutation}
use Rattle.vn_rules.specs.Construction.{row_named}
use Rattle.vn_rules.proofs.Constructed.{rows-named}
use Rattle.vn_rules.proofs.OrderLaws.{IsStrictlySortedBy-from_rising, IsDistinct-from_test}
use Rattle.vn_sysinit.specs.declared.entry.SysEntry.{SysEntry}
use Rattle.vn_sysinit.specs.Table.{Place, place_cmp, Row, row_of, clash, is_taken, with_entry, AreInOrder, up_names, down_names}
use Rattle.vn_sysinit.specs.Rows.{registered, constructor_entries, RunInTableOrder}
use Rattle.vn_types.proofs.EntryLaws.{IsStrictlySortedBy-insert_entry}
use Rattle.vn_sysinit.proofs.Insertion.{Lacks, IsPermutation-insert_entry}

pub place_cmp_total : IsTotalOrder place_cmp
place_cmp_total = then_total (on_total (λ (a : Place). a.0) nat_cmp_total) (on_total (λ (a : Place). a.1) nat_cmp_total)

-- ---- two lists in order with the same elements are one

contains_none : (e : Row) → Contains [] e → ⊥
contains_none e within = let below : within.0 < 0 = within.1 in omega arith

contains_first : (x : Row) (xs : List Row) → Contains (x ∷ xs) x
contains_first x xs = (0, omega arith, refl)

contains_cases : (x : Row) (xs : List Row) (e : Row) → Contains (x ∷ xs) e → (x ≡ e) ⊎ Contains xs e
contains_cases x xs e within = by (Contains-append_cases (x ∷ []) xs e within)
  where
    only : (k : ℕ) → k < 1 → slice_index_or (x ∷ []) k e ≡ e → x ≡ e
    only zero in' is = is
    only (suc k) in' is = absurd (omega arith)

    by : Contains (x ∷ []) e ⊎ Contains xs e → (x ≡ e) ⊎ Contains xs e
    by (inl first) = inl (only first.0 first.1 first.2)
    by (inr later) = inr later

-- what holds of each place holds of that of a row
at_row : (P : Place → Type 0) (rows : List Row) (e : Row) → AllByRecursion P (keys_of rows) → Contains rows e → P e.0
at_row P [] e all within = absurd (contains_none e within)
at_row P (x ∷ xs) e all within = by (contains_cases x xs e within) (at_row P xs e all.1)
  where
    by : (x ≡ e) ⊎ Contains xs e → (Contains xs e → P e.0) → P e.0
    by (inl same) more = subst (λ (q : Row). P q.0) same all.0
    by (inr later) more = more later

before_rest : (x : Row) (xs : List Row) (e : Row) → AreInOrder (x ∷ xs) → Contains xs e → place_cmp x.0 e.0 ≡ Less
before_rest x xs e order later = at_row (λ q. place_cmp x.0 q ≡ Less) xs e (sorted_head place_cmp x.0 (keys_of xs) order) later

not_before_itself : (x : Row) → place_cmp x.0 x.0 ≡ Less → ⊥
not_before_itself x less = let equal = tied_itself place_cmp_total x.0 in cc

first_is : (x : Row) (xs : List Row) (y : Row) (ys : List Row) → AreInOrder (x ∷ xs) → AreInOrder (y ∷ ys) → Contains (y ∷ ys) x → Contains (x ∷ xs) y → x ≡ y
first_is x xs y ys order_x order_y left right = by (contains_cases y ys x left) (contains_cases x xs y right)
  where
    by : (y ≡ x) ⊎ Contains ys x → (x ≡ y) ⊎ Contains xs y → x ≡ y
    by (inl same) other = sym same
    by (inr later) (inl same) = same
    by (inr later_x) (inr later_y) =
        absurd (not_before_itself x (place_cmp_total.trans x.0 y.0 x.0 (before_rest x xs y order_x later_y) (before_rest y ys x order_y later_x)))

rest_within : (x : Row) (xs : List Row) (y : Row) (ys : List Row) → x ≡ y → AreInOrder (x ∷ xs) → ((e : Row) → Contains (x ∷ xs) e → Contains (y ∷ ys) e) → (e : Row) → Contains xs e → Contains ys e
rest_within x xs y ys first order within e later = by (contains_cases y ys e (within e (Contains-append_right (x ∷ []) xs e later)))
  where
    by : (y ≡ e) ⊎ Contains ys e → Contains ys e
    by (inl same) = absurd (not_before_itself x (subst (λ (q : Row). place_cmp x.0 q.0 ≡ Less) (sym (first ∙ same)) (before_rest x xs e order later)))
    by (inr there) = there

pub same_in_order : (xs ys : List Row) → AreInOrder xs → AreInOrder ys → ((e : Row) → Contains xs e → Contains ys e) → ((e : Row) → Contains ys e → Contains xs e) → xs ≡ ys
same_in_order [] [] order_x order_y left right = refl
same_in_order [] (y ∷ ys) order_x order_y left right = absurd (contains_none y (right y (contains_first y ys)))
same_in_order (x ∷ xs) [] order_x order_y left right = absurd (contains_none x (left x (contains_first x xs)))
same_in_order (x ∷ xs) (y ∷ ys) order_x order_y left right =
    let first = first_is x xs y ys order_x order_y (left x (contains_first x xs)) (right y (contains_first y ys)) in
    let rest =
    same_in_order xs ys (sorted_tail place_cmp x.0 (keys_of xs) order_x) (sorted_tail place_cmp y.0 (keys_of ys) order_y) (rest_within x xs y ys first order_x left)
    (rest_within y ys x xs (sym first) order_y right) in
    λ i. first i ∷ rest i

-- ---- rows that clash with no other

clash-flips : (a b : Row) → clash a b ≡ clash b a
clash-flips a b = λ i. (nat_eq_equiv.symm a.0.0 b.0.0 i && nat_eq_equiv.symm a.0.1 b.0.1 i) || nat_list_eq_equiv.symm a.1 b.1 i

apart : (m n p q : ℕ) (b : Bool) → ((p == m) && (q == n) || b) ≡ false → is_eq (ordering_then (nat_cmp m p) (nat_cmp n q)) ≡ false
apart m n p q b free = grind (arith, nat_tests)

-- an entry that is not taken has a place of its own
lacks-not_taken : (entry : SysEntry) (rows : List Row) → is_taken entry rows ≡ false → Lacks place_cmp (entry.subsystem, entry.order) rows
lacks-not_taken entry [] free = tt
lacks-not_taken entry (row ∷ rows) free =
    let parts = or_parts (clash row (row_of entry)) (is_taken entry rows) free in
    (apart entry.subsystem entry.order row.0.0 row.0.1 _ parts.0, lacks-not_taken entry rows parts.1)

-- the entries and one more, in some order
pub IsPermutation-with_entry : (entry : SysEntry) (rows : List Row) → is_taken entry rows ≡ false → IsPermutation (row_of entry ∷ rows) (with_entry entry rows)
IsPermutation-with_entry entry rows free = IsPermutation-insert_entry place_cmp (entry.subsystem, entry.order) entry.name rows (lacks-not_taken entry rows free)

-- an entry is not taken where its row clashes with none
not_taken : (entry : SysEntry) (others rows : List Row) → AllByRecursion (λ row. clash (row_of entry) row ≡ false) (others ++ rows) → is_taken entry rows ≡ false
not_taken entry [] [] all = refl
not_taken entry [] (row ∷ rows) all = rw (clash-flips row (row_of entry) ∙ all.0) (not_taken entry [] rows all.1)
not_taken entry (other ∷ others) rows all = not_taken entry others rows all.1

-- where all rows are in order and clash with no other, it is they that stand once each is registered
registered-rows : (all : List Row) → AreInOrder all → IsDistinct clash all → (entries : List SysEntry) (rows : List Row) → AreInOrder rows → IsPermutation all (map row_of entries ++ rows) → registered entries rows ≡ Some all
registered-rows all order distinct [] rows in_order moved =
    ap Some (same_in_order rows all in_order order (λ e. Contains-permutation rows all e (IsPermutation-sym all rows moved)) (λ e. Contains-permutation all rows e moved))
registered-rows all order distinct (entry ∷ entries) rows in_order moved =
    rw free (registered-rows all order distinct entries (with_entry entry rows) (IsStrictlySortedBy-insert_entry place_cmp place_cmp_total (entry.subsystem, entry.order) entry.name rows in_order)
    (IsPermutation-trans all (row_of entry ∷ later ++ rows) (later ++ with_entry entry rows) moved
    (IsPermutation-trans (row_of entry ∷ later ++ rows) (later ++ row_of entry ∷ rows) (later ++ with_entry entry rows)
    (IsPermutation-sym (later ++ row_of entry ∷ rows) (row_of entry ∷ later ++ rows) (IsPermutation-middle later (row_of entry) rows))
    (IsPermutation-append_right later (row_of entry ∷ rows) (with_entry entry rows) (IsPermutation-with_entry entry rows free)))))
  where
    later : List Row
    later = map row_of entries

    free : is_taken entry rows ≡ false
    free = not_taken entry later rows (IsDistinct-head clash (row_of entry) (later ++ rows) (IsDistinct-IsPermutation clash clash-flips all (row_of entry ∷ later ++ rows) moved distinct))

-- ---- the constructors of a stack

constructors-registered : (entries : List SysEntry) → IsPermutation constructor_entries entries → registered entries [] ≡ Some (map row_of constructor_entries)
unfolding IsStrictlySortedBy
constructors-registered entries moved =
    registered-rows (map row_of constructor_entries) (IsStrictlySortedBy-from_rising place_cmp (keys_of (map row_of constructor_entries)) refl)
    (IsDistinct-from_test clash (map row_of constructor_entries) refl) entries [] tt
    (rw append-nil (IsPermutation-map row_of constructor_entries entries moved))

pub constructors-in_order : (entries : List SysEntry) → IsPermutation constructor_entries entries → RunInTableOrder entries
constructors-in_order entries moved =
    let registered = constructors-registered entries moved in
    record {
      up = ap (option_map up_names) registered;
      down = ap (option_map down_names) registered;
      rows = ap (option_map (λ (rows : List Row). map row_named (up_names rows))) registered ∙ ap Some rows-named;
    }
