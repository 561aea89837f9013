-- An entry that is written in its place, and the numbers that are told then.
use Rattle.std.proofs.Common.{◌≡◌, ℕ, Bool, true, false, cond, not, List, [], ◌∷◌, ◌++◌, get_or, Option, Some, None, IfSome, MatchOption, Result, Ok, Err, OnOk, OnErr, refl, sym, ap, ap₂, subst, ◌∙◌}
use Rattle.std.specs.Prelude.{slice_set, IsSome}
use Rattle.std.specs.List.{filter, position, find}
use Rattle.std.specs.Option.{option_map, option_and_then}
use Rattle.std.proofs.lemmas.List.{map-append}
use Rattle.vn_types.specs.declared.address.Ip4.{Ip4}
use Rattle.vn_types.specs.declared.interface.HalfId.{HalfId}
use Rattle.vn_types.specs.Interfaces.{half_id_eq}
use Rattle.vn_types.proofs.InterfaceNames.{half_id_eq-Decides}
use Rattle.vn_rules.specs.declared.arp.ArpEntryOf.{ArpEntryOf}
use Rattle.vn_rules.specs.declared.timer.TimersOf.{TimersOf}
use Rattle.vn_rules.specs.declared.timer.TimerOf.TheVariants.{Arp}
use Rattle.vn_rules.specs.Arp.{is_place, is_entry_at, is_timer_where, entry_of, with_entry, on_entry, timer_at, without_timer_at, new_entry}
use Rattle.vn_rules.specs.Soundness.{has_distinct_entries}
use Rattle.vn_rules.specs.Timers.{Timed, after_arm, has_timer}
use Rattle.vn_rules.proofs.ArpPlaces.{AtPlace, place_from_test}
use Rattle.vn_rules.proofs.ListTests.{find_passes, found-some, absent-none}
use Rattle.vn_arp.specs.declared.change.Change.{Change}
use Rattle.vn_arp.specs.declared.change.Change.TheVariants.{Asked, Down, Learnt, Static}
use Rattle.vn_arp.specs.declared.gone.At.{At}
use Rattle.vn_arp.specs.Changes.{arm_for, armed_for, changed}
use Rattle.vn_arp.specs.Kept.{KeptOf, entries_of, is_kept_at, is_numbered, arm_of, without_numbered, KnowsArms, Tells, IsPut}
use Rattle.vn_arp.specs.Listing.{IsIndexed, IsOrder, at_of, with_listed}
use Rattle.vn_arp.proofs.Numbers.{all_from_none, filter_alike, weaker, none-stopped, place_itself, told-alike, none_there as none_told, stopped-there, told-without, told-armed}
use Rattle.vn_arp.proofs.Order.{IsOrder-none, IsOrder-more, IsOrder-fewer, IsOrder-written}
use Rattle.vn_arp.proofs.Rows.{entry_of-kept, found-at, found-nowhere, put-there, put-last, put-distinct, left, entries_left, distinct_left}

-- ---- answers

-- what holds of a good answer, by what is known of it
pub for_ok : {T E : Type 0} (P Q : Type 0) (r : Result T E) → (P → Q) → OnOk r P → OnOk r Q
for_ok P Q (Ok x) then p = then p
for_ok P Q (Err e) then p = tt

-- what holds anyway
pub on_err : {T E : Type 0} (P : Type 0) (r : Result T E) → P → OnErr r P
on_err P (Ok x) p = tt
on_err P (Err e) p = p

-- what holds of either answer
pub for_both : {T E : Type 0} (P Q C : Type 0) (r : Result T E) → (P → C) → (Q → C) → OnOk r P → OnErr r Q → C
for_both P Q C (Ok x) ok err p q = ok p
for_both P Q C (Err e) ok err p q = err q

abbrev pub Kept : Type 0
Kept = KeptOf HalfId

-- ---- changes

-- an entry stays where it is
pub changed_at : (change : Change) (e : ArpEntryOf HalfId) → at_of (changed change e) ≡ at_of e
changed_at Asked e = refl
changed_at Down e = refl
changed_at (Learnt mac) e = refl
changed_at (Static mac) e = refl

module _ (half : HalfId) (ip : Ip4) where
  abbrev here : Kept → Bool
  here k = is_kept_at half_id_eq half ip k

  -- what is known of the entry that was written, and of the one that is
  pub record Edited (order : List At) (rows new : List Kept) (old k : Kept) : Type 0 where
    pub there : entry_of half_id_eq half ip (entries_of rows) ≡ Some old.entry
    pub arm : arm_of half_id_eq half ip rows ≡ old.arm
    pub halves : old.entry.half ≡ half
    pub addresses : old.entry.ip ≡ ip
    pub put : (f : ArpEntryOf HalfId → ArpEntryOf HalfId) → ((e : ArpEntryOf HalfId) → at_of (f e) ≡ at_of e) → k.entry ≡ f old.entry → IsPut half_id_eq half ip f k.arm rows new
    pub index : (f : ArpEntryOf HalfId → ArpEntryOf HalfId) → ((e : ArpEntryOf HalfId) → at_of (f e) ≡ at_of e) → k.entry ≡ f old.entry → IsIndexed order new

  pub edited : (order : List At) (inside rows : List Kept) → inside ≡ rows → (r : Option ℕ) (place : ℕ) → r ≡ Some place → r ≡ position here rows
      → IsIndexed order inside → (old k : Kept) → old ≡ get_or inside place old → Edited order rows (slice_set inside place k) old k
  edited order inside rows view r place is at indexed old k value = record {
    there = entry_of-kept half_id_eq half_id_eq-Decides half ip rows ∙ ap (λ o. option_map (λ (k : Kept). k.entry) o) found;
    arm = ap (option_and_then (λ (k : Kept). k.arm)) found;
    halves = AtPlace.halves at_place;
    addresses = AtPlace.addresses at_place;
    put = put;
    index = λ f stays by_f. record {
      distinct =
          put-distinct half_id_eq half_id_eq-Decides half ip f k.arm rows (slice_set inside place k) (put f stays by_f) (λ e passes. same_test f stays e ∙ passes)
          (sym (ap (λ rows. has_distinct_entries half_id_eq (entries_of rows)) view) ∙ indexed.distinct);
      ordered = IsOrder-written order inside place old k value (ap at_of by_f ∙ stays old.entry) indexed.ordered;
    };
  }
    where
      placed : Some place ≡ position here inside
      placed = sym is ∙ at ∙ ap (position here) (sym view)

      found : find here rows ≡ Some old
      found = ap (find here) (sym view) ∙ found-at here inside place old placed ∙ ap Some (sym value)

      passes : here old ≡ true
      passes = find_passes here rows old found

      at_place : AtPlace half_id_eq half_id_eq-Decides half ip old.entry.half old.entry.ip
      at_place = place_from_test half_id_eq half_id_eq-Decides half ip old.entry.half old.entry.ip passes

      same_test : (f : ArpEntryOf HalfId → ArpEntryOf HalfId) → ((e : ArpEntryOf HalfId) → at_of (f e) ≡ at_of e) → (e : ArpEntryOf HalfId) → is_entry_at half_id_eq half ip (f e) ≡ is_entry_at half_id_eq half ip e
      same_test f stays e = ap (λ (at : At). is_place half_id_eq half ip at.half at.ip) (stays e)

      put : (f : ArpEntryOf HalfId → ArpEntryOf HalfId) → ((e : ArpEntryOf HalfId) → at_of (f e) ≡ at_of e) → k.entry ≡ f old.entry → IsPut half_id_eq half ip f k.arm rows (slice_set inside place k)
      put f stays by_f =
          subst (λ rows. IsPut half_id_eq half ip f k.arm rows (slice_set inside place k)) view
          (put-there half_id_eq half_id_eq-Decides half ip inside place old k placed indexed.distinct (ap (is_entry_at half_id_eq half ip) by_f ∙ same_test f stays old.entry ∙ passes) f
          (by_f ∙ ap (λ (k : Kept). f k.entry) value))

  -- where an entry was found, none is not
  pub not_nowhere : (rows : List Kept) → IsSome (entry_of half_id_eq half ip (entries_of rows)) → (r : Option ℕ) → r ≡ None → r ≡ position here rows → ⊥
  not_nowhere rows some r is at = by (find here rows) refl
    where
      by : (o : Option Kept) → find here rows ≡ o → ⊥
      by None absent = let none : false ≡ true = subst IsSome (entry_of-kept half_id_eq half_id_eq-Decides half ip rows ∙ ap (λ o. option_map (λ (k : Kept). k.entry) o) absent) some in cc
      by (Some k) found = cc (found-nowhere here rows k (sym is ∙ at), found)

  -- and where none was found, there is none
  pub absent_there : (rows : List Kept) (r : Option ℕ) → r ≡ None → r ≡ position here rows → entry_of half_id_eq half ip (entries_of rows) ≡ None
  absent_there rows r is at =
      entry_of-kept half_id_eq half_id_eq-Decides half ip rows
      ∙ ap (λ o. option_map (λ (k : Kept). k.entry) o) (found-nowhere here rows (record { entry = new_entry half ip; arm = None }) (sym is ∙ at))

  -- what is found of what is kept is found of the entries
  pub found_entry : {X : Type 0} (rows : List Kept) (v : X → Kept) (r : Option X) → option_map v r ≡ find here rows
      → MatchOption r (entry_of half_id_eq half ip (entries_of rows) ≡ None) (λ x. entry_of half_id_eq half ip (entries_of rows) ≡ Some (v x).entry)
  found_entry rows v None is = entry_of-kept half_id_eq half_id_eq-Decides half ip rows ∙ ap (λ o. option_map (λ (k : Kept). k.entry) o) (sym is)
  found_entry rows v (Some x) is = entry_of-kept half_id_eq half_id_eq-Decides half ip rows ∙ ap (λ o. option_map (λ (k : Kept). k.entry) o) (sym is)

  -- an entry that is put as it was
  pub put_same : (es : List (ArpEntryOf HalfId)) (e : ArpEntryOf HalfId) → entry_of half_id_eq half ip es ≡ Some e → with_entry half_id_eq half ip (λ e. e) es ≡ es
  put_same es e found = ap (λ b. cond b (on_entry half_id_eq half ip (λ e. e) es) (es ++ new_entry half ip ∷ [])) (found-some (is_entry_at half_id_eq half ip) es e found) ∙ by es
    where
      by : (es : List (ArpEntryOf HalfId)) → on_entry half_id_eq half ip (λ e. e) es ≡ es
      by [] = refl
      by (e ∷ es) = ap₂ (λ e es. e ∷ es) (either (is_entry_at half_id_eq half ip e)) (by es)
        where
          either : (b : Bool) → cond b e e ≡ e
          either true = refl
          either false = refl

  -- where there is no entry, one that is put stands last
  pub put_new : (f : ArpEntryOf HalfId → ArpEntryOf HalfId) (es : List (ArpEntryOf HalfId)) → entry_of half_id_eq half ip es ≡ None → es ++ f (new_entry half ip) ∷ [] ≡ with_entry half_id_eq half ip f es
  put_new f es absent = ap (λ b. cond b (on_entry half_id_eq half ip f es) (es ++ f (new_entry half ip) ∷ [])) (sym (absent-none (is_entry_at half_id_eq half ip) es absent))

  -- an entry that is not there has no number
  pub absent_kept : (rows : List Kept) → entry_of half_id_eq half ip (entries_of rows) ≡ None → find here rows ≡ None
  absent_kept rows absent = by (find here rows) refl
    where
      by : (o : Option Kept) → find here rows ≡ o → find here rows ≡ None
      by None is = is
      by (Some k) is = cc (entry_of-kept half_id_eq half_id_eq-Decides half ip rows ∙ ap (λ o. option_map (λ (k : Kept). k.entry) o) is, absent)

  module _ (rows new : List Kept) (t : TimersOf HalfId) (known : KnowsArms half_id_eq rows t) (f : ArpEntryOf HalfId → ArpEntryOf HalfId) where
    abbrev told : List Kept → HalfId → Ip4 → Option ℕ
    told rows own at = arm_of half_id_eq own at rows

    pub knows_kept : IsPut half_id_eq half ip f (arm_of half_id_eq half ip rows) rows new → KnowsArms half_id_eq new t
    knows_kept put = told-alike half_id_eq half_id_eq-Decides (told rows) t known (told new) (λ own at. put.arms own at ∙ by own at (is_place half_id_eq half ip own at) refl)
      where
        by : (own : HalfId) (at : Ip4) (b : Bool) → is_place half_id_eq half ip own at ≡ b → cond b (arm_of half_id_eq half ip rows) (arm_of half_id_eq own at rows) ≡ arm_of half_id_eq own at rows
        by own at true is = let there = place_from_test half_id_eq half_id_eq-Decides half ip own at is in λ i. arm_of half_id_eq (sym there.halves i) (sym there.addresses i) rows
        by own at false is = refl

    pub knows_stopped : IsPut half_id_eq half ip f None rows new → KnowsArms half_id_eq new (without_timer_at half_id_eq half ip t)
    knows_stopped put = told-without half_id_eq half_id_eq-Decides (told rows) t known (is_place half_id_eq half ip) (told new) put.arms

    pub knows_added : IsPut half_id_eq half ip f (Some t.armed) rows new → arm_of half_id_eq half ip rows ≡ None → has_timer t.armed t ≡ false → (deadline : ℕ)
        → KnowsArms half_id_eq new (after_arm deadline (Arp half ip) t)
    knows_added put none unused deadline =
        told-armed half_id_eq half_id_eq-Decides (told rows) t known half ip deadline (told new) (none_told half_id_eq half_id_eq-Decides (told rows) t known half ip none) unused put.arms

    -- where the timer there is stopped, its number is told no more
    abbrev pub stopped : HalfId → Ip4 → Option ℕ
    stopped own at = cond (is_place half_id_eq half ip own at) None (arm_of half_id_eq own at rows)

    still : Tells half_id_eq stopped (without_timer_at half_id_eq half ip t)
    still = told-without half_id_eq half_id_eq-Decides (told rows) t known (is_place half_id_eq half ip) stopped (λ own at. refl)

    pub knows_restarted : IsPut half_id_eq half ip f (Some t.armed) rows new → has_timer t.armed (without_timer_at half_id_eq half ip t) ≡ false → (deadline : ℕ)
        → KnowsArms half_id_eq new (after_arm deadline (Arp half ip) (without_timer_at half_id_eq half ip t))
    knows_restarted put unused deadline =
        told-armed half_id_eq half_id_eq-Decides stopped (without_timer_at half_id_eq half ip t) still half ip deadline (told new)
        (none_told half_id_eq half_id_eq-Decides stopped (without_timer_at half_id_eq half ip t) still half ip (ap (λ b. cond b None (arm_of half_id_eq half ip rows)) (place_itself half_id_eq half_id_eq-Decides half ip)))
        unused (λ own at. put.arms own at ∙ by own at (is_place half_id_eq half ip own at))
      where
        by : (own : HalfId) (at : Ip4) (b : Bool) → cond b (Some t.armed) (arm_of half_id_eq own at rows) ≡ cond b (Some t.armed) (cond b None (arm_of half_id_eq own at rows))
        by own at true = refl
        by own at false = refl

  -- to stop the timer of the number that is kept is to stop the timer there
  pub stopped_kept : (rows : List Kept) (t : TimersOf HalfId) → KnowsArms half_id_eq rows t → (arm : Option ℕ) → arm_of half_id_eq half ip rows ≡ arm → without_numbered arm t ≡ without_timer_at half_id_eq half ip t
  stopped_kept rows t known arm is = ap (λ arm. without_numbered arm t) (sym is) ∙ stopped-there half_id_eq half_id_eq-Decides (λ half ip. arm_of half_id_eq half ip rows) t known half ip

  -- where there is no entry, there is no timer to stop
  pub untimed_absent : (rows : List Kept) (t : TimersOf HalfId) → KnowsArms half_id_eq rows t → entry_of half_id_eq half ip (entries_of rows) ≡ None → t ≡ without_timer_at half_id_eq half ip t
  untimed_absent rows t known absent = none-stopped t ∙ stopped_kept rows t known None (ap (option_and_then (λ (k : Kept). k.arm)) (absent_kept rows absent))

  -- nor where it was taken out
  pub untaken : (t : TimersOf HalfId) → timer_at half_id_eq half ip t ≡ None → without_timer_at half_id_eq half ip t ≡ t
  untaken t taken =
      (λ i. record {
        armed = t.armed;
        standing = filter_alike (λ (e : Timed HalfId). not (is_timer_there e)) (λ (e : Timed HalfId). not (is_numbered None e)) t.standing
            (weaker (λ (e : Timed HalfId). is_timer_there e ≡ false) (λ (e : Timed HalfId). not (is_timer_there e) ≡ not (is_numbered None e)) (λ e is. ap not is) t.standing
            (all_from_none is_timer_there t.standing (absent-none is_timer_there t.standing taken))) i;
      })
      ∙ sym (none-stopped t)
    where
      is_timer_there : Timed HalfId → Bool
      is_timer_there e = is_timer_where (is_place half_id_eq half ip) e.1

  -- ---- what follows from what was done to the entry and to its timer

  -- what becomes of the timers, and that the numbers are told
  pub record Timing (new : List Kept) (want is : TimersOf HalfId) : Type 0 where
    pub timers : is ≡ want
    pub knows : KnowsArms half_id_eq new is

  module _ (order : List At) (rows new : List Kept) (old k : Kept) (e : Edited order rows new old k) (t : TimersOf HalfId) (known : KnowsArms half_id_eq rows t)
      (f : ArpEntryOf HalfId → ArpEntryOf HalfId) (stays : (e : ArpEntryOf HalfId) → at_of (f e) ≡ at_of e) (by_f : k.entry ≡ f old.entry) (after : TimersOf HalfId) where
    put_with : (arm : Option ℕ) → k.arm ≡ arm → IsPut half_id_eq half ip f arm rows new
    put_with arm is = subst (λ arm. IsPut half_id_eq half ip f arm rows new) is (e.put f stays by_f)

    numbered_there : without_numbered old.arm t ≡ without_timer_at half_id_eq half ip t
    numbered_there = stopped_kept rows t known old.arm e.arm

    timing : (want : TimersOf HalfId) → after ≡ want → KnowsArms half_id_eq new want → Timing new want after
    timing want is knows = record { timers = is; knows = subst (KnowsArms half_id_eq new) (sym is) knows }

    -- its timer was stopped, and armed for the deadline, where there is one
    pub retimed : (deadline : Option ℕ) → k.arm ≡ arm_for deadline t → IfSome deadline (λ _. has_timer t.armed (without_numbered old.arm t) ≡ false)
        → after ≡ armed_for deadline (Arp old.entry.half old.entry.ip) (without_numbered old.arm t)
        → Timing new (armed_for deadline (Arp half ip) (without_timer_at half_id_eq half ip t)) after
    retimed None none unused is = timing _ (is ∙ numbered_there) (knows_stopped rows new t known f (put_with None none))
    retimed (Some deadline) arm unused is =
        timing _ (is ∙ (λ i. after_arm deadline (Arp (e.halves i) (e.addresses i)) (numbered_there i)))
        (knows_restarted rows new t known f (put_with (Some t.armed) arm) (sym (ap (has_timer t.armed) numbered_there) ∙ unused) deadline)

module _ (rows : List Kept) (k : Kept) (absent : entry_of half_id_eq k.entry.half k.entry.ip (entries_of rows) ≡ None) where
  itself : is_kept_at half_id_eq k.entry.half k.entry.ip k ≡ true
  itself = place_itself half_id_eq half_id_eq-Decides k.entry.half k.entry.ip

  -- an entry that is made last
  pub added : IsPut half_id_eq k.entry.half k.entry.ip (λ _. k.entry) k.arm rows (rows ++ k ∷ [])
  added = put-last half_id_eq half_id_eq-Decides k.entry.half k.entry.ip rows k (absent_kept k.entry.half k.entry.ip rows absent) itself (λ _. k.entry) refl

  pub added_index : (order : List At) → IsIndexed order rows → IsIndexed (with_listed (at_of k.entry) order) (rows ++ k ∷ [])
  added_index order indexed = record {
    distinct = put-distinct half_id_eq half_id_eq-Decides k.entry.half k.entry.ip (λ _. k.entry) k.arm rows (rows ++ k ∷ []) added (λ e _. itself) indexed.distinct;
    ordered = subst (IsOrder (with_listed (at_of k.entry) order)) (sym (map-append (λ (k : Kept). k.entry) rows (k ∷ []))) (IsOrder-more order (entries_of rows) indexed.ordered k.entry absent);
  }

  no_arm : arm_of half_id_eq k.entry.half k.entry.ip rows ≡ None
  no_arm = ap (option_and_then (λ (k : Kept). k.arm)) (absent_kept k.entry.half k.entry.ip rows absent)

  -- where it has no timer, each number is told as before
  added_arms : k.arm ≡ None → (own : HalfId) (at : Ip4) → arm_of half_id_eq own at (rows ++ k ∷ []) ≡ arm_of half_id_eq own at rows
  added_arms none own at = added.arms own at ∙ ap (λ arm. cond (is_place half_id_eq k.entry.half k.entry.ip own at) arm (arm_of half_id_eq own at rows)) none ∙ by (is_place half_id_eq k.entry.half k.entry.ip own at) refl
    where
      by : (b : Bool) → is_place half_id_eq k.entry.half k.entry.ip own at ≡ b → cond b None (arm_of half_id_eq own at rows) ≡ arm_of half_id_eq own at rows
      by true is =
          let there = place_from_test half_id_eq half_id_eq-Decides k.entry.half k.entry.ip own at is in
          sym ((λ i. arm_of half_id_eq (there.halves i) (there.addresses i) rows) ∙ no_arm)
      by false is = refl

  -- its timer is armed with it, where it has one
  pub added_knows : (t : TimersOf HalfId) → KnowsArms half_id_eq rows t → (deadline : Option ℕ) → k.arm ≡ arm_for deadline t → IfSome deadline (λ _. has_timer t.armed t ≡ false) → (after : TimersOf HalfId)
      → after ≡ armed_for deadline (Arp k.entry.half k.entry.ip) t → KnowsArms half_id_eq (rows ++ k ∷ []) after
  added_knows t known None none unused after is =
      subst (KnowsArms half_id_eq (rows ++ k ∷ [])) (sym is)
      (told-alike half_id_eq half_id_eq-Decides (λ own at. arm_of half_id_eq own at rows) t known (λ own at. arm_of half_id_eq own at (rows ++ k ∷ [])) (added_arms none))
  added_knows t known (Some deadline) arm unused after is =
      subst (KnowsArms half_id_eq (rows ++ k ∷ [])) (sym is)
      (knows_added k.entry.half k.entry.ip rows (rows ++ k ∷ []) t known (λ _. k.entry)
      (subst (λ arm. IsPut half_id_eq k.entry.half k.entry.ip (λ _. k.entry) arm rows (rows ++ k ∷ [])) arm added) no_arm unused deadline)

-- ---- the entries of a stack that is new, and those that are left

pub new_index : (order : List At) (rows : List Kept) → order ≡ [] → rows ≡ [] → IsIndexed order rows
unfolding has_distinct_entries
new_index order rows none empty = subst (λ (x : List At × List Kept). IsIndexed x.0 x.1) (λ i. (sym none i, sym empty i)) (record { distinct = refl; ordered = IsOrder-none })

pub left_index : (gone : HalfId → Ip4 → Bool) (order : List At) (rows : List Kept) → IsIndexed order rows → IsIndexed (filter (λ (a : At). not (gone a.half a.ip)) order) (left half_id_eq half_id_eq-Decides gone rows)
left_index gone order rows indexed = record {
  distinct = distinct_left half_id_eq half_id_eq-Decides gone rows indexed.distinct;
  ordered =
      subst (IsOrder (filter (λ (a : At). not (gone a.half a.ip)) order)) (sym (entries_left half_id_eq half_id_eq-Decides gone rows))
      (IsOrder-fewer order (entries_of rows) indexed.ordered (λ (a : At). not (gone a.half a.ip)));
}
