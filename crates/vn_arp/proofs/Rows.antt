-- The entry of an address on a half among the entries that are kept: found, changed in its place, made last, removed.
use Rattle.std.proofs.Common.{◌≡◌, ℕ, suc, ◌<◌, ◌≤◌, ◌+◌, Bool, true, false, cond, not, ◌||◌, List, [], ◌∷◌, ◌++◌, length, map, get_or, Option, Some, None, refl, sym, ap, ◌∙◌, arith}
use Rattle.std.specs.Bool.{Decides}
use Rattle.std.specs.Prelude.{nat_lt, slice_set, unwrap_or}
use Rattle.std.specs.List.{find, filter, list_any, position, position_or_len}
use Rattle.std.specs.Option.{option_map, option_and_then, option_or}
use Rattle.std.proofs.lemmas.Bool.{and_parts, and_from, both_ways, ltb-true, ltb-false, not-true}
use Rattle.std.proofs.lemmas.List.{map-append}
use Rattle.std.proofs.lemmas.List.Folds.{find-append}
use Rattle.std.proofs.lemmas.List.Sums.{prefix_len-le-length}
use Rattle.vn_types.specs.declared.address.Ip4.{Ip4}
use Rattle.vn_types.proofs.ListMaps.{filter_map_same, any_map_same, find_map_same}
use Rattle.vn_rules.specs.declared.arp.ArpEntryOf.{ArpEntryOf}
use Rattle.vn_rules.specs.Arp.{new_entry, is_place, is_entry_at, entry_of, with_entry}
use Rattle.vn_rules.specs.Orders.{are_distinct}
use Rattle.vn_rules.specs.Soundness.{has_distinct_entries}
use Rattle.vn_rules.proofs.ArpPlaces.{place_from_test, base, base-place, one_there, with_entry-put, distinct_put}
use Rattle.vn_rules.proofs.ListEdits.{edit_map_same}
use Rattle.vn_rules.proofs.ListTests.{both_pass, unchanged, distinct_map_same, distinct_filter, absent-none, found-some, none_weaker}
use Rattle.vn_arp.specs.Kept.{KeptOf, entries_of, is_kept_at, arm_of, IsPut}
use Rattle.vn_arp.proofs.Numbers.{place_turned}

-- ---- the first element that passes, by its place

module _ {A : Type 0} (p : A → Bool) where
  -- there is one at the place that is found
  pub within : (xs : List A) (k : ℕ) → Some k ≡ position p xs → (k ≡ position_or_len p xs) × (k < length xs)
  within xs k is = by (nat_lt (position_or_len p xs) (length xs)) refl is
    where
      by : (b : Bool) → nat_lt (position_or_len p xs) (length xs) ≡ b → Some k ≡ cond b (Some (position_or_len p xs)) None → (k ≡ position_or_len p xs) × (k < length xs)
      by true less is =
          let at : k ≡ position_or_len p xs = ap (λ o. unwrap_or o k) is in
          let below : position_or_len p xs < length xs = ltb-true _ _ less in
          (at, omega arith)
      by false not_less is = cc

  found_or_past : (xs : List A) (d : A) → (position_or_len p xs < length xs → find p xs ≡ Some (get_or xs (position_or_len p xs) d)) × (length xs ≤ position_or_len p xs → find p xs ≡ None)
  found_or_past [] d = (λ less. absurd (omega arith), λ past. refl)
  found_or_past (x ∷ xs) d = by (p x) (found_or_past xs d)
    where
      by : (b : Bool) → (position_or_len p xs < length xs → find p xs ≡ Some (get_or xs (position_or_len p xs) d)) × (length xs ≤ position_or_len p xs → find p xs ≡ None)
          → (cond (not b) (1 + position_or_len p xs) 0 < suc (length xs) → cond b (Some x) (find p xs) ≡ Some (get_or (x ∷ xs) (cond (not b) (1 + position_or_len p xs) 0) d))
          × (suc (length xs) ≤ cond (not b) (1 + position_or_len p xs) 0 → cond b (Some x) (find p xs) ≡ None)
      by true more = (λ less. refl, λ past. absurd (omega arith))
      by false more =
          let next : 1 + position_or_len p xs ≡ suc (position_or_len p xs) = omega arith in
          (λ less. rw next (more.0 (omega arith)), λ past. more.1 (omega arith))

  pub found-at : (xs : List A) (k : ℕ) (d : A) → Some k ≡ position p xs → find p xs ≡ Some (get_or xs k d)
  found-at xs k d is = let at = within xs k is in rw at.0 ((found_or_past xs d).0 (let below : k < length xs = at.1 in let same : k ≡ position_or_len p xs = at.0 in omega arith))

  pub found-nowhere : (xs : List A) (d : A) → None ≡ position p xs → find p xs ≡ None
  found-nowhere xs d is = by (nat_lt (position_or_len p xs) (length xs)) refl is
    where
      by : (b : Bool) → nat_lt (position_or_len p xs) (length xs) ≡ b → None ≡ cond b (Some (position_or_len p xs)) None → find p xs ≡ None
      by true less is = cc
      by false not_less is = (found_or_past xs d).1 (ltb-false _ _ not_less)

  -- where none is, all are before
  pub all-before : (xs : List A) → None ≡ position p xs → length xs ≡ position_or_len p xs
  all-before xs is = by (nat_lt (position_or_len p xs) (length xs)) refl is
    where
      by : (b : Bool) → nat_lt (position_or_len p xs) (length xs) ≡ b → None ≡ cond b (Some (position_or_len p xs)) None → length xs ≡ position_or_len p xs
      by true less is = cc
      by false not_less is =
          let past : length xs ≤ position_or_len p xs = ltb-false _ _ not_less in
          let within : position_or_len p xs ≤ length xs = prefix_len-le-length (λ x. not (p x)) xs in
          omega arith

  -- to write there is to change what passes, where no two do
  pub written-there : (y : A) (xs : List A) → are_distinct (both_pass p) xs ≡ true → position_or_len p xs < length xs → slice_set xs (position_or_len p xs) y ≡ map (λ x. cond (p x) y x) xs
  written-there y [] one less = absurd (omega arith)
  written-there y (x ∷ xs) one less =
      let parts = and_parts (not (list_any (both_pass p x) xs)) _ one in by (p x) refl less (not-true _ parts.0) (written-there y xs parts.1)
    where
      by : (b : Bool) → p x ≡ b → cond (not b) (1 + position_or_len p xs) 0 < suc (length xs) → list_any (both_pass p x) xs ≡ false
          → (position_or_len p xs < length xs → slice_set xs (position_or_len p xs) y ≡ map (λ x. cond (p x) y x) xs)
          → slice_set (x ∷ xs) (cond (not b) (1 + position_or_len p xs) 0) y ≡ cond b y x ∷ map (λ x. cond (p x) y x) xs
      by true is less none more = ap (λ ys. y ∷ ys) (sym (unchanged p (λ _. y) xs (none_weaker p (both_pass p x) (λ y passes. and_from (p x) (p y) is passes) xs none)))
      by false is less none more =
          let next : 1 + position_or_len p xs ≡ suc (position_or_len p xs) = omega arith in
          rw next (ap (λ ys. x ∷ ys) (more (omega arith)))

module _ {N : Type 0} (same : N → N → Bool) (decides : (g h : N) → Decides (same g h) (g ≡ h)) where
  -- the entry alone is found as what is kept of it
  pub entry_of-kept : (half : N) (ip : Ip4) (rows : List (KeptOf N)) → entry_of same half ip (entries_of rows) ≡ option_map (λ (k : KeptOf N). k.entry) (find (is_kept_at same half ip) rows)
  entry_of-kept half ip rows = find_map_same (λ (k : KeptOf N). k.entry) (is_kept_at same half ip) (is_entry_at same half ip) (λ k. refl) rows

  module _ (half : N) (ip : Ip4) where
    -- what is kept of one place is kept of no other
    apart : (own : N) (at : Ip4) → is_place same half ip own at ≡ false → (k : KeptOf N) → is_kept_at same half ip k ≡ true → is_kept_at same own at k ≡ false
    apart own at other k is =
        let there = place_from_test same decides half ip k.entry.half k.entry.ip is in
        (λ i. is_place same own at (there.halves i) (there.addresses i)) ∙ place_turned same decides half ip own at ∙ other

    there : (own : N) (at : Ip4) → is_place same half ip own at ≡ true → (k : KeptOf N) → is_kept_at same own at k ≡ is_kept_at same half ip k
    there own at is k =
        let here = place_from_test same decides half ip own at is in
        λ i. is_kept_at same (here.halves i) (here.addresses i) k

    one_kept : (rows : List (KeptOf N)) → has_distinct_entries same (entries_of rows) ≡ true → are_distinct (both_pass (is_kept_at same half ip)) rows ≡ true
    one_kept rows one =
        sym (distinct_map_same (λ (k : KeptOf N). k.entry) (both_pass (is_kept_at same half ip)) (both_pass (is_entry_at same half ip)) (λ a b. refl) rows)
        ∙ one_there same decides half ip (entries_of rows) one

    -- ---- in its place

    module _ (rows : List (KeptOf N)) (place : ℕ) (d k : KeptOf N) (is : Some place ≡ position (is_kept_at same half ip) rows) (one : has_distinct_entries same (entries_of rows) ≡ true)
        (here : is_kept_at same half ip k ≡ true) where
      pub found : entry_of same half ip (entries_of rows) ≡ Some (get_or rows place d).entry
      found = entry_of-kept half ip rows ∙ ap (option_map (λ (k : KeptOf N). k.entry)) (found-at (is_kept_at same half ip) rows place d is)

      changed : slice_set rows place k ≡ map (λ x. cond (is_kept_at same half ip x) k x) rows
      changed =
          let at = within (is_kept_at same half ip) rows place is in
          ap (λ n. slice_set rows n k) at.0 ∙ written-there (is_kept_at same half ip) k rows (one_kept rows one) (let below : place < length rows = at.1 in let there : place ≡ position_or_len (is_kept_at same half ip) rows = at.0 in omega arith)

      entries_changed : entries_of (slice_set rows place k) ≡ with_entry same half ip (λ _. k.entry) (entries_of rows)
      entries_changed =
          ap entries_of changed
          ∙ sym (edit_map_same (λ (k : KeptOf N). k.entry) (is_kept_at same half ip) (is_entry_at same half ip) (λ k. refl) (λ _. k) (λ _. k.entry) (λ _. refl) rows)
          ∙ ap (λ b. cond b (map (λ e. cond (is_entry_at same half ip e) k.entry e) (entries_of rows)) (entries_of rows ++ k.entry ∷ [])) (sym (found-some (is_entry_at same half ip) (entries_of rows) _ found))

      pub put-there : (f : ArpEntryOf N → ArpEntryOf N) → k.entry ≡ f (get_or rows place d).entry → IsPut same half ip f k.arm rows (slice_set rows place k)
      put-there f by_f = record {
        entries =
            entries_changed
            ∙ ap (λ e. with_entry same half ip (λ _. e) (entries_of rows)) (by_f ∙ ap f (sym (ap (λ o. unwrap_or o (new_entry half ip)) found)))
            ∙ sym (with_entry-put same decides half ip f (entries_of rows) one);
        arms = λ own at. ap (option_and_then (λ (k : KeptOf N). k.arm)) (ap (find (is_kept_at same own at)) changed) ∙ by own at (is_place same half ip own at) refl;
      }
        where
          found_put : (xs : List (KeptOf N)) → list_any (is_kept_at same half ip) xs ≡ true → find (is_kept_at same half ip) (map (λ x. cond (is_kept_at same half ip x) k x) xs) ≡ Some k
          found_put [] some = cc
          found_put (x ∷ xs) some = at (is_kept_at same half ip x) refl some (found_put xs)
            where
              at : (b : Bool) → is_kept_at same half ip x ≡ b → (b || list_any (is_kept_at same half ip) xs) ≡ true
                  → (list_any (is_kept_at same half ip) xs ≡ true → find (is_kept_at same half ip) (map (λ x. cond (is_kept_at same half ip x) k x) xs) ≡ Some k)
                  → cond (is_kept_at same half ip (cond b k x)) (Some (cond b k x)) (find (is_kept_at same half ip) (map (λ x. cond (is_kept_at same half ip x) k x) xs)) ≡ Some k
              at true passes some more = rw here refl
              at false passes some more = rw passes (more some)

          found_other : (own : N) (at : Ip4) → is_place same half ip own at ≡ false → (xs : List (KeptOf N)) → find (is_kept_at same own at) (map (λ x. cond (is_kept_at same half ip x) k x) xs) ≡ find (is_kept_at same own at) xs
          found_other own at other [] = refl
          found_other own at other (x ∷ xs) = by_test (is_kept_at same half ip x) refl (found_other own at other xs)
            where
              by_test : (b : Bool) → is_kept_at same half ip x ≡ b → find (is_kept_at same own at) (map (λ x. cond (is_kept_at same half ip x) k x) xs) ≡ find (is_kept_at same own at) xs
                  → cond (is_kept_at same own at (cond b k x)) (Some (cond b k x)) (find (is_kept_at same own at) (map (λ x. cond (is_kept_at same half ip x) k x) xs))
                  ≡ cond (is_kept_at same own at x) (Some x) (find (is_kept_at same own at) xs)
              by_test true passes more = rw (apart own at other k here, apart own at other x passes) more
              by_test false passes more = ap (cond (is_kept_at same own at x) (Some x)) more

          by : (own : N) (at : Ip4) (b : Bool) → is_place same half ip own at ≡ b
              → option_and_then (λ (k : KeptOf N). k.arm) (find (is_kept_at same own at) (map (λ x. cond (is_kept_at same half ip x) k x) rows)) ≡ cond b k.arm (arm_of same own at rows)
          by own at true so =
              ap (option_and_then (λ (k : KeptOf N). k.arm)) ((λ i. find (λ x. there own at so x i) (map (λ x. cond (is_kept_at same half ip x) k x) rows)) ∙ found_put rows (found-some (is_kept_at same half ip) rows _ (found-at (is_kept_at same half ip) rows place d is)))
          by own at false so = ap (option_and_then (λ (k : KeptOf N). k.arm)) (found_other own at so rows)

    -- ---- last

    module _ (rows : List (KeptOf N)) (k : KeptOf N) (absent : find (is_kept_at same half ip) rows ≡ None) (here : is_kept_at same half ip k ≡ true) where
      pub none_there : list_any (is_entry_at same half ip) (entries_of rows) ≡ false
      none_there =
          any_map_same (λ (k : KeptOf N). k.entry) (is_kept_at same half ip) (is_entry_at same half ip) (λ k. refl) rows
          ∙ absent-none (is_kept_at same half ip) rows absent

      pub put-last : (f : ArpEntryOf N → ArpEntryOf N) → k.entry ≡ f (new_entry half ip) → IsPut same half ip f k.arm rows (rows ++ k ∷ [])
      put-last f by_f = record {
        entries =
            map-append (λ (k : KeptOf N). k.entry) rows (k ∷ []) ∙ ap (λ e. entries_of rows ++ e ∷ []) by_f
            ∙ ap (λ b. cond b (map (λ e. cond (is_entry_at same half ip e) (f e) e) (entries_of rows)) (entries_of rows ++ f (new_entry half ip) ∷ [])) (sym none_there);
        arms = λ own at. ap (option_and_then (λ (k : KeptOf N). k.arm)) (find-append (is_kept_at same own at) rows (k ∷ [])) ∙ by own at (is_place same half ip own at) refl;
      }
        where
          by : (own : N) (at : Ip4) (b : Bool) → is_place same half ip own at ≡ b
              → option_and_then (λ (k : KeptOf N). k.arm) (option_or (find (is_kept_at same own at) rows) (cond (is_kept_at same own at k) (Some k) None)) ≡ cond b k.arm (arm_of same own at rows)
          by own at true so =
              let gone : find (is_kept_at same own at) rows ≡ None = (λ i. find (λ x. there own at so x i) rows) ∙ absent in
              rw (gone, there own at so k ∙ here) refl
          by own at false so = rw (apart own at so k here) (or_none (find (is_kept_at same own at) rows))
            where
              or_none : (o : Option (KeptOf N)) → option_and_then (λ (k : KeptOf N). k.arm) (option_or o None) ≡ option_and_then (λ (k : KeptOf N). k.arm) o
              or_none None = refl
              or_none (Some x) = refl

    -- no two entries are of one place
    pub put-distinct : (f : ArpEntryOf N → ArpEntryOf N) (arm : Option ℕ) (old new : List (KeptOf N)) → IsPut same half ip f arm old new
        → ((e : ArpEntryOf N) → is_entry_at same half ip e ≡ true → is_entry_at same half ip (f e) ≡ true)
        → has_distinct_entries same (entries_of old) ≡ true → has_distinct_entries same (entries_of new) ≡ true
    put-distinct f arm old new put stays one =
        ap (has_distinct_entries same) (put.entries ∙ with_entry-put same decides half ip f (entries_of old) one)
        ∙ distinct_put same decides half ip (f (base same decides half ip (entries_of old))) (stays _ (base-place same decides half ip (entries_of old))) (entries_of old) one

  -- ---- entries that go

  module _ (gone : N → Ip4 → Bool) where
    abbrev pub goes : KeptOf N → Bool
    goes k = gone k.entry.half k.entry.ip

    abbrev pub left : List (KeptOf N) → List (KeptOf N)
    left rows = filter (λ k. not (goes k)) rows

    pub entries_left : (rows : List (KeptOf N)) → entries_of (left rows) ≡ filter (λ (e : ArpEntryOf N). not (gone e.half e.ip)) (entries_of rows)
    entries_left rows = sym (filter_map_same (λ (k : KeptOf N). k.entry) (λ k. not (goes k)) (λ (e : ArpEntryOf N). not (gone e.half e.ip)) (λ k. refl) rows)

    pub distinct_left : (rows : List (KeptOf N)) → has_distinct_entries same (entries_of rows) ≡ true → has_distinct_entries same (entries_of (left rows)) ≡ true
    unfolding has_distinct_entries
    distinct_left rows one = ap (has_distinct_entries same) (entries_left rows) ∙ distinct_filter (λ (e : ArpEntryOf N). not (gone e.half e.ip)) _ (entries_of rows) one

    goes-there : (half : N) (ip : Ip4) (k : KeptOf N) → is_kept_at same half ip k ≡ true → goes k ≡ gone half ip
    goes-there half ip k is = let there = place_from_test same decides half ip k.entry.half k.entry.ip is in λ i. gone (there.halves i) (there.addresses i)

    pub arms_left : (rows : List (KeptOf N)) (half : N) (ip : Ip4) → arm_of same half ip (left rows) ≡ cond (gone half ip) None (arm_of same half ip rows)
    arms_left rows half ip = ap (option_and_then (λ (k : KeptOf N). k.arm)) (found_left rows) ∙ by (gone half ip)
      where
        found_left : (rows : List (KeptOf N)) → find (is_kept_at same half ip) (left rows) ≡ cond (gone half ip) None (find (is_kept_at same half ip) rows)
        found_left [] = nothing (gone half ip)
          where
            nothing : (b : Bool) → None ≡ cond {A = Option (KeptOf N)} b None None
            nothing true = refl
            nothing false = refl
        found_left (k ∷ rows) = at (is_kept_at same half ip k) (goes k) (gone half ip) refl refl refl (found_left rows)
          where
            at : (b g w : Bool) → is_kept_at same half ip k ≡ b → goes k ≡ g → gone half ip ≡ w → find (is_kept_at same half ip) (left rows) ≡ cond w None (find (is_kept_at same half ip) rows)
                → find (is_kept_at same half ip) (cond (not g) (k ∷ left rows) (left rows)) ≡ cond w None (cond b (Some k) (find (is_kept_at same half ip) rows))
            at true true true is so here more = more
            at true false false is so here more = rw is refl
            at true true false is so here more = absurd (both_ways _ (goes-there half ip k is ∙ here) so)
            at true false true is so here more = absurd (both_ways _ so (goes-there half ip k is ∙ here))
            at false true w is so here more = more
            at false false w is so here more = rw is more

        by : (b : Bool) → option_and_then (λ (k : KeptOf N). k.arm) (cond b None (find (is_kept_at same half ip) rows)) ≡ cond b None (arm_of same half ip rows)
        by true = refl
        by false = refl
