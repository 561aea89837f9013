-- The places of the entries in the order of a listing: one more, fewer, and the entry at a number.
use Rattle.std.proofs.Common.{◌≡◌, ℕ, zero, suc, ◌+◌, Bool, true, false, cond, not, ◌&&◌, ◌||◌, ◌==◌, List, [], ◌∷◌, ◌++◌, map, get_or, Option, Some, None, refl, sym, ap, subst, ◌∙◌, arith, zero-add}
use Rattle.std.specs.Prelude.{nat_lt, slice_get, slice_set}
use Rattle.std.specs.List.{AllByRecursion, count_by, filter, find, insert, list_all, list_any, position_or_len}
use Rattle.std.specs.Option.{option_and_then, option_map, option_map_or}
use Rattle.std.proofs.lemmas.Bool.{and_parts, and_from, or_parts, or_from, or_left, or_right, both_ways, false_from_ne_true, lt-ltb, ne_eqb}
use Rattle.std.proofs.lemmas.Bool.Decides.{nat_tests}
use Rattle.std.proofs.lemmas.List.{map-set, set-get_or}
use Rattle.std.proofs.lemmas.List.Sums.{sum_by-cons, sum_by_push}
use Rattle.vn_types.specs.declared.interface.HalfId.{HalfId}
use Rattle.vn_types.specs.Interfaces.{half_id_eq}
use Rattle.vn_types.proofs.InterfaceNames.{half_id_eq-Decides}
use Rattle.vn_rules.specs.declared.arp.ArpEntryOf.{ArpEntryOf}
use Rattle.vn_rules.specs.Arp.{entry_of}
use Rattle.vn_rules.proofs.ListTests.{absent-none, all_filter, all_weaker, count_map_same}
use Rattle.vn_arp.specs.declared.gone.At.{At}
use Rattle.vn_arp.specs.Kept.{KeptOf, entries_of}
use Rattle.vn_arp.specs.Listing.{IsOrder, are_listed, at_before, at_of, nth_entry, row_of, with_listed}
use Rattle.vn_arp.proofs.Before.{is_at, not_back, onward, else_back, not_itself, one_place, turned}
use Rattle.vn_arp.proofs.Numbers.{find_alike, place_itself, weaker}

-- ---- counts

module _ {X : Type 0} where
  any_counted : (p : X → Bool) (xs : List X) → list_any p xs ≡ nat_lt 0 (count_by p xs)
  any_counted p [] = refl
  any_counted p (x ∷ xs) = by (p x) (any_counted p xs) ∙ ap (nat_lt 0) (sym (sum_by-cons (λ z. cond (p z) 1 0) x xs))
    where
      by : (b : Bool) → list_any p xs ≡ nat_lt 0 (count_by p xs) → (b || list_any p xs) ≡ nat_lt 0 (cond b 1 0 + count_by p xs)
      by true more = sym (lt-ltb 0 (1 + count_by p xs) (omega arith))
      by false more = more ∙ ap (nat_lt 0) (sym (zero-add (count_by p xs)))

  counted_fewer : (p keep : X → Bool) (xs : List X) → count_by p (filter keep xs) ≡ count_by (λ x. p x && keep x) xs
  counted_fewer p keep [] = refl
  counted_fewer p keep (x ∷ xs) = by (keep x) (p x) refl (counted_fewer p keep xs) ∙ sym (sum_by-cons (λ z. cond (p z && keep z) 1 0) x xs)
    where
      by : (k b : Bool) → p x ≡ b → count_by p (filter keep xs) ≡ count_by (λ x. p x && keep x) xs
          → count_by p (cond k (x ∷ filter keep xs) (filter keep xs)) ≡ cond (p x && k) 1 0 + count_by (λ x. p x && keep x) xs
      by true b is more = sum_by-cons (λ z. cond (p z) 1 0) x (filter keep xs) ∙ rw is (both b more)
        where
          both : (b : Bool) → count_by p (filter keep xs) ≡ count_by (λ x. p x && keep x) xs → cond b 1 0 + count_by p (filter keep xs) ≡ cond (b && true) 1 0 + count_by (λ x. p x && keep x) xs
          both true more = ap (λ n. 1 + n) more
          both false more = ap (λ n. 0 + n) more
      by false true is more = more ∙ rw is (sym (zero-add _))
      by false false is more = more ∙ rw is (sym (zero-add _))

  -- each element passes its own test
  each_among : (q : X → X → Bool) → ((x : X) → q x x ≡ true) → (xs : List X) → AllByRecursion (λ x. list_any (q x) xs ≡ true) xs
  each_among q itself [] = tt
  each_among q itself (x ∷ xs) = (
    or_left (q x x) _ (itself x),
    weaker (λ y. list_any (q y) xs ≡ true) (λ y. list_any (q y) (x ∷ xs) ≡ true) (λ y among. or_right (q y x) _ among) xs (each_among q itself xs),
  )

-- ---- one place more

module _ (a : At) where
  all_more : (q : At → Bool) (order : List At) → list_all q order ≡ true → q a ≡ true → list_all q (with_listed a order) ≡ true
  all_more q [] all here = and_from _ _ here refl
  all_more q (b ∷ order) all here = let parts = and_parts (q b) _ all in by (at_before a b) parts.0 (all_more q order parts.1 here)
    where
      by : (t : Bool) → q b ≡ true → list_all q (with_listed a order) ≡ true → list_all q (cond t (a ∷ b ∷ order) (b ∷ with_listed a order)) ≡ true
      by true one more = and_from _ _ here all
      by false one more = and_from _ _ one more

  listed_more : (order : List At) → are_listed order ≡ true → list_any (is_at a) order ≡ false → are_listed (with_listed a order) ≡ true
  listed_more [] listed absent = refl
  listed_more (b ∷ order) listed absent =
      let parts = and_parts (list_all (at_before b) order) _ listed in
      let two = or_parts (is_at a b) _ absent in
      by (at_before a b) refl parts.0 two.0 (listed_more order parts.1 two.1)
    where
      by : (t : Bool) → at_before a b ≡ t → list_all (at_before b) order ≡ true → is_at a b ≡ false → are_listed (with_listed a order) ≡ true
          → are_listed (cond t (a ∷ b ∷ order) (b ∷ with_listed a order)) ≡ true
      by true is behind apart more = and_from _ _ (and_from _ _ is (all_weaker (at_before b) (at_before a) (λ c. onward a b c is) order behind)) listed
      by false is behind apart more = and_from _ _ (all_more (at_before b) order behind (else_back a b apart is)) more

  counted_more : (p : At → Bool) (order : List At) → count_by p (with_listed a order) ≡ count_by p order + cond (p a) 1 0
  counted_more p [] = refl
  counted_more p (b ∷ order) = by (at_before a b) (counted_more p order)
    where
      by : (t : Bool) → count_by p (with_listed a order) ≡ count_by p order + cond (p a) 1 0
          → count_by p (cond t (a ∷ b ∷ order) (b ∷ with_listed a order)) ≡ count_by p (b ∷ order) + cond (p a) 1 0
      by true more = let whole : count_by p (a ∷ b ∷ order) ≡ cond (p a) 1 0 + count_by p (b ∷ order) = sum_by-cons (λ z. cond (p z) 1 0) a (b ∷ order) in omega arith
      by false more =
          let old : count_by p (b ∷ order) ≡ cond (p b) 1 0 + count_by p order = sum_by-cons (λ z. cond (p z) 1 0) b order in
          let new : count_by p (b ∷ with_listed a order) ≡ cond (p b) 1 0 + count_by p (with_listed a order) = sum_by-cons (λ z. cond (p z) 1 0) b (with_listed a order) in
          omega arith

  -- it is put where the first that it comes before stands
  pub inserted : (order : List At) → insert order (position_or_len (at_before a) order) a ≡ with_listed a order
  inserted [] = refl
  inserted (b ∷ order) = by (at_before a b) (inserted order)
    where
      by : (t : Bool) → insert order (position_or_len (at_before a) order) a ≡ with_listed a order
          → insert (b ∷ order) (cond (not t) (1 + position_or_len (at_before a) order) 0) a ≡ cond t (a ∷ b ∷ order) (b ∷ with_listed a order)
      by true more = refl
      by false more =
          let next : 1 + position_or_len (at_before a) order ≡ suc (position_or_len (at_before a) order) = omega arith in
          rw next (ap (λ rest. b ∷ rest) more)

  -- ---- the number of a place

  abbrev comes_earlier : At → Bool
  comes_earlier b = at_before b a

  none_earlier : (order : List At) → list_all (at_before a) order ≡ true → count_by comes_earlier order ≡ 0
  none_earlier [] all = refl
  none_earlier (b ∷ order) all =
      let parts = and_parts (at_before a b) _ all in
      let rest : count_by comes_earlier order ≡ 0 = none_earlier order parts.1 in
      let here : cond {A = ℕ} (comes_earlier b) 1 0 ≡ 0 = rw (not_back a b parts.0) refl in
      let whole : count_by comes_earlier (b ∷ order) ≡ cond (comes_earlier b) 1 0 + count_by comes_earlier order = sum_by-cons (λ c. cond (comes_earlier c) 1 0) b order in
      omega arith

  not_among : (order : List At) → list_all (at_before a) order ≡ true → list_any (is_at a) order ≡ false
  not_among [] all = refl
  not_among (b ∷ order) all =
      let parts = and_parts (at_before a b) _ all in
      or_from (is_at a b) _ (false_from_ne_true _ (λ is. both_ways _ (not_itself a) (subst (λ c. at_before a c ≡ true) (one_place a b is) parts.0))) (not_among order parts.1)

  all_among : (q : At → Bool) (order : List At) → list_all q order ≡ true → list_any (is_at a) order ≡ true → q a ≡ true
  all_among q [] all among = cc
  all_among q (b ∷ order) all among = let parts = and_parts (q b) _ all in by (is_at a b) refl among parts.0 (all_among q order parts.1)
    where
      by : (t : Bool) → is_at a b ≡ t → (t || list_any (is_at a) order) ≡ true → q b ≡ true → (list_any (is_at a) order ≡ true → q a ≡ true) → q a ≡ true
      by true is among one more = ap q (sym (one_place a b is)) ∙ one
      by false is among one more = more among

  -- whether it stands at a number
  abbrev stands_at : List At → ℕ → Bool
  stands_at order n = option_map_or (λ b. is_at b a) (slice_get order n) false

  none_at : (order : List At) (n : ℕ) → list_any (is_at a) order ≡ false → stands_at order n ≡ false
  none_at [] n none = refl
  none_at (b ∷ order) zero none = turned a b ∙ (or_parts (is_at a b) _ none).0
  none_at (b ∷ order) (suc n) none = none_at order n (or_parts (is_at a b) _ none).1

  one_more : (m n : ℕ) → ((1 + m) == suc n) ≡ (m == n)
  one_more m n = grind (arith, nat_tests)

  -- as many come before it as stand before it
  numbered : (order : List At) (n : ℕ) → are_listed order ≡ true → list_any (is_at a) order ≡ true → (count_by comes_earlier order == n) ≡ stands_at order n
  numbered [] n listed among = cc
  numbered (b ∷ order) n listed among =
      let parts = and_parts (list_all (at_before b) order) _ listed in
      ap (λ m. m == n) (sum_by-cons (λ c. cond (comes_earlier c) 1 0) b order) ∙ by (is_at a b) refl among parts.0 n (λ n. numbered order n parts.1)
    where
      first : b ≡ a → list_all (at_before b) order ≡ true → cond (comes_earlier b) 1 0 + count_by comes_earlier order ≡ 0
      first is behind =
          let here : cond {A = ℕ} (comes_earlier b) 1 0 ≡ 0 = ap (λ c. cond {A = ℕ} (at_before c a) 1 0) is ∙ rw (not_itself a) refl in
          let rest : count_by comes_earlier order ≡ 0 = none_earlier order (ap (λ c. list_all (at_before c) order) (sym is) ∙ behind) in
          omega arith

      by : (t : Bool) → is_at a b ≡ t → (t || list_any (is_at a) order) ≡ true → list_all (at_before b) order ≡ true → (n : ℕ)
          → ((n : ℕ) → list_any (is_at a) order ≡ true → (count_by comes_earlier order == n) ≡ stands_at order n)
          → ((cond (comes_earlier b) 1 0 + count_by comes_earlier order) == n) ≡ stands_at (b ∷ order) n
      by true is among behind zero more = ap (λ m. m == 0) (first (one_place a b is) behind) ∙ sym (turned a b ∙ is)
      by true is among behind (suc n) more =
          ap (λ m. m == suc n) (first (one_place a b is) behind) ∙ ne_eqb 0 (suc n) (λ no. omega arith)
          ∙ sym (none_at order n (not_among order (ap (λ c. list_all (at_before c) order) (sym (one_place a b is)) ∙ behind)))
      by false is among behind zero more =
          ap (λ t. (cond t 1 0 + count_by comes_earlier order) == 0) (all_among (at_before b) order behind among)
          ∙ ne_eqb (1 + count_by comes_earlier order) 0 (λ no. omega arith) ∙ sym (turned a b ∙ is)
      by false is among behind (suc n) more =
          ap (λ t. (cond t 1 0 + count_by comes_earlier order) == suc n) (all_among (at_before b) order behind among)
          ∙ one_more (count_by comes_earlier order) n ∙ more n among

-- ---- the order of entries

-- where nothing is kept
pub IsOrder-none : IsOrder [] []
IsOrder-none = record { listed = refl; same = λ p. refl }

module _ (order : List At) (entries : List (ArpEntryOf HalfId)) (is : IsOrder order entries) where
  any_listed : (p : At → Bool) → list_any p order ≡ list_any (λ (e : ArpEntryOf HalfId). p (at_of e)) entries
  any_listed p = any_counted p order ∙ ap (nat_lt 0) (is.same p) ∙ sym (any_counted (λ (e : ArpEntryOf HalfId). p (at_of e)) entries)

  -- an entry that was not there is made last
  pub IsOrder-more : (e : ArpEntryOf HalfId) → entry_of half_id_eq e.half e.ip entries ≡ None → IsOrder (with_listed (at_of e) order) (entries ++ e ∷ [])
  IsOrder-more e absent = record {
    listed = listed_more (at_of e) order is.listed (any_listed (is_at (at_of e)) ∙ absent-none (λ f. is_at (at_of e) (at_of f)) entries absent);
    same = λ p. counted_more (at_of e) p order ∙ ap (λ n. n + cond (p (at_of e)) 1 0) (is.same p) ∙ sym (sum_by_push (λ (f : ArpEntryOf HalfId). cond (p (at_of f)) 1 0) entries e);
  }

  -- entries go
  pub IsOrder-fewer : (keep : At → Bool) → IsOrder (filter keep order) (filter (λ (e : ArpEntryOf HalfId). keep (at_of e)) entries)
  IsOrder-fewer keep = record {
    listed = listed_fewer order is.listed;
    same = λ p. counted_fewer p keep order ∙ is.same (λ a. p a && keep a) ∙ sym (counted_fewer (λ (e : ArpEntryOf HalfId). p (at_of e)) (λ (e : ArpEntryOf HalfId). keep (at_of e)) entries);
  }
    where
      listed_fewer : (order : List At) → are_listed order ≡ true → are_listed (filter keep order) ≡ true
      listed_fewer [] listed = refl
      listed_fewer (a ∷ order) listed = let parts = and_parts (list_all (at_before a) order) _ listed in by (keep a) parts.0 (listed_fewer order parts.1)
        where
          by : (t : Bool) → list_all (at_before a) order ≡ true → are_listed (filter keep order) ≡ true → are_listed (cond t (a ∷ filter keep order) (filter keep order)) ≡ true
          by true behind more = and_from _ _ (all_filter keep (at_before a) order behind) more
          by false behind more = more

  -- the entry at a number is the one of the place that stands there
  pub listed_at : (n : ℕ) → nth_entry n entries ≡ option_and_then (λ (a : At). entry_of half_id_eq a.half a.ip entries) (slice_get order n)
  listed_at n =
      (λ i. find (λ e. sym (is.same (λ b. at_before b (at_of e))) i == n) entries)
      ∙ find_alike (λ (e : ArpEntryOf HalfId). count_by (comes_earlier (at_of e)) order == n) (λ (e : ArpEntryOf HalfId). stands_at (at_of e) order n) entries
      (weaker (λ (e : ArpEntryOf HalfId). list_any (λ (f : ArpEntryOf HalfId). is_at (at_of e) (at_of f)) entries ≡ true)
      (λ (e : ArpEntryOf HalfId). (count_by (comes_earlier (at_of e)) order == n) ≡ stands_at (at_of e) order n)
      (λ e among. numbered (at_of e) order n is.listed (any_listed (is_at (at_of e)) ∙ among)) entries
      (each_among (λ (e : ArpEntryOf HalfId) (f : ArpEntryOf HalfId). is_at (at_of e) (at_of f)) (λ e. place_itself half_id_eq half_id_eq-Decides e.half e.ip) entries))
      ∙ by (slice_get order n)
    where
      nothing : (es : List (ArpEntryOf HalfId)) → find (λ _. false) es ≡ None
      nothing [] = refl
      nothing (e ∷ es) = nothing es

      by : (o : Option At) → find (λ (e : ArpEntryOf HalfId). option_map_or (λ b. is_at b (at_of e)) o false) entries ≡ option_and_then (λ (a : At). entry_of half_id_eq a.half a.ip entries) o
      by None = nothing entries
      by (Some a) = refl

  -- what a listing tells of it
  pub row_there : (n : ℕ) (a : At) → slice_get order n ≡ Some a → (r : Option (ArpEntryOf HalfId)) → entry_of half_id_eq a.half a.ip entries ≡ r → option_map row_of r ≡ option_map row_of (nth_entry n entries)
  row_there n a at r is =
      ap (option_map row_of) (sym is ∙ ap (option_and_then (λ (a : At). entry_of half_id_eq a.half a.ip entries)) (sym at) ∙ sym (listed_at n))

  pub row_past : (n : ℕ) → slice_get order n ≡ None → None ≡ option_map row_of (nth_entry n entries)
  row_past n past = ap (option_map row_of) (ap (option_and_then (λ (a : At). entry_of half_id_eq a.half a.ip entries)) (sym past) ∙ sym (listed_at n))

-- an entry is written where it was
pub IsOrder-written : (order : List At) (rows : List (KeptOf HalfId)) (place : ℕ) (old k : KeptOf HalfId) → old ≡ get_or rows place old → at_of k.entry ≡ at_of old.entry
    → IsOrder order (entries_of rows) → IsOrder order (entries_of (slice_set rows place k))
IsOrder-written order rows place old k value same_place is = record {
  listed = is.listed;
  same = λ p. is.same p ∙ counted p rows ∙ ap (count_by p) (sym places) ∙ sym (counted p (slice_set rows place k));
}
  where
    counted : (p : At → Bool) (rows : List (KeptOf HalfId)) → count_by (λ (e : ArpEntryOf HalfId). p (at_of e)) (entries_of rows) ≡ count_by p (map (λ (k : KeptOf HalfId). at_of k.entry) rows)
    counted p rows =
        count_map_same (λ (k : KeptOf HalfId). k.entry) (λ (k : KeptOf HalfId). p (at_of k.entry)) (λ (e : ArpEntryOf HalfId). p (at_of e)) (λ k. refl) rows
        ∙ sym (count_map_same (λ (k : KeptOf HalfId). at_of k.entry) (λ (k : KeptOf HalfId). p (at_of k.entry)) p (λ k. refl) rows)

    places : map (λ (k : KeptOf HalfId). at_of k.entry) (slice_set rows place k) ≡ map (λ (k : KeptOf HalfId). at_of k.entry) rows
    places =
        map-set (λ (k : KeptOf HalfId). at_of k.entry) rows place k
        ∙ ap (slice_set (map (λ (k : KeptOf HalfId). at_of k.entry) rows) place) (same_place ∙ ap (λ (k : KeptOf HalfId). at_of k.entry) value)
        ∙ sym (map-set (λ (k : KeptOf HalfId). at_of k.entry) rows place (get_or rows place old))
        ∙ ap (map (λ (k : KeptOf HalfId). at_of k.entry)) (set-get_or rows place old)
