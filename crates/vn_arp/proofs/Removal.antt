-- Entries go with the timers of their numbers.
use Rattle.std.proofs.Common.{◌≡◌, Bool, true, false, cond, not, ◌&&◌, ◌||◌, List, [], ◌∷◌, Option, Some, None, refl, sym, ap, ◌∙◌}
use Rattle.std.specs.Bool.{Decides}
use Rattle.std.specs.List.{AllByRecursion, list_any, filter, find}
use Rattle.std.specs.Option.{option_and_then}
use Rattle.std.proofs.lemmas.Bool.{and_parts, and_from, or_parts, or_left, or_right, both_ways, not-true}
use Rattle.std.proofs.lemmas.List.Elements.{recursion_from_All}
use Rattle.vn_types.specs.declared.address.Ip4.{Ip4}
use Rattle.vn_rules.specs.declared.timer.TimerOf.{TimerOf}
use Rattle.vn_rules.specs.declared.timer.TimerOf.TheVariants.{Arp, Ping}
use Rattle.vn_rules.specs.declared.timer.TimersOf.{TimersOf}
use Rattle.vn_rules.specs.Arp.{is_timer_where, is_place, without_timers_where}
use Rattle.vn_rules.specs.Soundness.{is_same_entry, has_distinct_entries}
use Rattle.vn_rules.specs.Timers.{Timed}
use Rattle.vn_rules.proofs.ArpPlaces.{place_from_test}
use Rattle.vn_rules.proofs.ListTests.{found-some}
use Rattle.vn_arp.specs.Kept.{KeptOf, entries_of, is_numbered, without_numbered, without_gone, is_kept_at, arm_of, KnowsArms}
use Rattle.vn_arp.proofs.Numbers.{filter_alike, none-stopped, place_itself, told-without, weaker}
use Rattle.vn_arp.proofs.Rows.{goes, left, arms_left}

module _ {A : Type 0} where
  -- what is said of each element, for each case
  each_case : {I : Type 0} (P : I → A → Type 0) (xs : List A) → ((i : I) → AllByRecursion (P i) xs) → AllByRecursion (λ x. (i : I) → P i x) xs
  each_case P [] all = tt
  each_case P (x ∷ xs) all = (λ i. (all i).0, each_case P xs (λ i. (all i).1))

  -- an element that passes has what all have
  one_of : (P : A → Type 0) (p : A → Bool) (C : Type 0) → ((x : A) → P x → p x ≡ true → C) → (xs : List A) → AllByRecursion P xs → list_any p xs ≡ true → C
  one_of P p C then [] ps some = cc
  one_of P p C then (x ∷ xs) ps some = by (p x) refl some (one_of P p C then xs ps.1)
    where
      by : (b : Bool) → p x ≡ b → (b || list_any p xs) ≡ true → (list_any p xs ≡ true → C) → C
      by true is some more = then x ps.0 is
      by false is some more = more some

  filter_twice : (a b : A → Bool) (xs : List A) → filter (λ x. not (a x)) (filter (λ x. not (b x)) xs) ≡ filter (λ x. not (b x || a x)) xs
  filter_twice a b [] = refl
  filter_twice a b (x ∷ xs) = by (b x) (a x) refl (filter_twice a b xs)
    where
      by : (c d : Bool) → a x ≡ d → filter (λ x. not (a x)) (filter (λ x. not (b x)) xs) ≡ filter (λ x. not (b x || a x)) xs
          → filter (λ x. not (a x)) (cond (not c) (x ∷ filter (λ x. not (b x)) xs) (filter (λ x. not (b x)) xs)) ≡ cond (not (c || d)) (x ∷ filter (λ x. not (b x || a x)) xs) (filter (λ x. not (b x || a x)) xs)
      by true d is more = more
      by false true is more = rw is more
      by false false is more = rw is (ap (λ ys. x ∷ ys) more)

  -- the first that passes, which passes another test too
  found_both : (p q : A → Bool) (xs : List A) → ((x : A) → find p xs ≡ Some x → p x ≡ true → q x ≡ true) → list_any p xs ≡ true → list_any q xs ≡ true
  found_both p q [] then some = cc
  found_both p q (x ∷ xs) then some = by (p x) refl then some (found_both p q xs)
    where
      by : (b : Bool) → p x ≡ b → ((y : A) → cond b (Some x) (find p xs) ≡ Some y → p y ≡ true → q y ≡ true) → (b || list_any p xs) ≡ true
          → (((y : A) → find p xs ≡ Some y → p y ≡ true → q y ≡ true) → list_any p xs ≡ true → list_any q xs ≡ true) → (q x || list_any q xs) ≡ true
      by true is then some more = or_left (q x) _ (then x refl is)
      by false is then some more = or_right (q x) _ (more then some)

module _ {N : Type 0} (same : N → N → Bool) (decides : (g h : N) → Decides (same g h) (g ≡ h)) where
  -- what is kept of each entry is what is found at its place
  own_places : (rows : List (KeptOf N)) → has_distinct_entries same (entries_of rows) ≡ true → AllByRecursion (λ (k : KeptOf N). find (is_kept_at same k.entry.half k.entry.ip) rows ≡ Some k) rows
  unfolding has_distinct_entries
  own_places [] one = tt
  own_places (x ∷ rows) one =
      let parts = and_parts (not (list_any (is_same_entry same x.entry) (entries_of rows))) _ one in
      (rw (place_itself same decides x.entry.half x.entry.ip) refl, behind rows (not-true _ parts.0) (own_places rows parts.1))
    where
      behind : (ks : List (KeptOf N)) → list_any (is_same_entry same x.entry) (entries_of ks) ≡ false → AllByRecursion (λ (k : KeptOf N). find (is_kept_at same k.entry.half k.entry.ip) rows ≡ Some k) ks
          → AllByRecursion (λ (k : KeptOf N). find (is_kept_at same k.entry.half k.entry.ip) (x ∷ rows) ≡ Some k) ks
      behind [] none all = tt
      behind (k ∷ ks) none all =
          let two = or_parts (is_same_entry same x.entry k.entry) _ none in
          (rw two.0 all.0, behind ks two.1 all.1)

  module _ (gone : N → Ip4 → Bool) where
    -- whether it is the timer of an entry that goes, by its number
    abbrev is_stopped : List (KeptOf N) → Timed N → Bool
    is_stopped rows e = list_any (λ (k : KeptOf N). goes same decides gone k && is_numbered k.arm e) rows

    all_stopped : (rows : List (KeptOf N)) (t : TimersOf N) → without_gone gone rows t ≡ record t { standing = filter (λ e. not (is_stopped rows e)) t.standing }
    all_stopped [] t = none-stopped t
    all_stopped (k ∷ rows) t = by (goes same decides gone k) (all_stopped rows)
      where
        by : (b : Bool) → ((u : TimersOf N) → without_gone gone rows u ≡ record u { standing = filter (λ e. not (is_stopped rows e)) u.standing })
            → without_gone gone rows (cond b (without_numbered k.arm t) t) ≡ record t { standing = filter (λ (e : Timed N). not ((b && is_numbered k.arm e) || is_stopped rows e)) t.standing }
        by true more = more (without_numbered k.arm t) ∙ (λ i. record t { standing = filter_twice (is_stopped rows) (is_numbered k.arm) t.standing i })
        by false more = more t

    module _ (rows : List (KeptOf N)) (t : TimersOf N) (known : KnowsArms same rows t) (one : has_distinct_entries same (entries_of rows) ≡ true) where
      abbrev IsKnown : Timed N → Type 0
      IsKnown e = (place : N × Ip4) → is_timer_where (is_place same place.0 place.1) e.1 ≡ is_numbered (arm_of same place.0 place.1 rows) e

      -- an entry that goes and has the number has the timer
      timer_goes : (e : Timed N) → IsKnown e → is_stopped rows e ≡ true → is_timer_where gone e.1 ≡ true
      timer_goes e is some =
          one_of (λ (k : KeptOf N). find (is_kept_at same k.entry.half k.entry.ip) rows ≡ Some k) (λ (k : KeptOf N). goes same decides gone k && is_numbered k.arm e) (is_timer_where gone e.1 ≡ true)
          (λ k found passes. let two = and_parts (goes same decides gone k) _ passes in at k e.1 two.0 (is (k.entry.half, k.entry.ip) ∙ ap (λ o. is_numbered (option_and_then (λ (k : KeptOf N). k.arm) o) e) found ∙ two.1))
          rows (own_places rows one) some
        where
          at : (k : KeptOf N) (what : TimerOf N) → goes same decides gone k ≡ true → is_timer_where (is_place same k.entry.half k.entry.ip) what ≡ true → is_timer_where gone what ≡ true
          at k (Arp own ip) going here = let there = place_from_test same decides k.entry.half k.entry.ip own ip here in (λ i. gone (there.halves i) (there.addresses i)) ∙ going
          at k (Ping id arm) going here = cc

      -- a timer of an entry that goes has the number that is kept of it
      number_goes : (e : Timed N) → IsKnown e → is_timer_where gone e.1 ≡ true → is_stopped rows e ≡ true
      number_goes (turn, Arp own ip) is going = by (find (is_kept_at same own ip) rows) refl
        where
          numbered : is_numbered (arm_of same own ip rows) (turn, Arp own ip) ≡ true
          numbered = sym (is (own, ip)) ∙ place_itself same decides own ip

          by : (o : Option (KeptOf N)) → find (is_kept_at same own ip) rows ≡ o → is_stopped rows (turn, Arp own ip) ≡ true
          by None absent = cc (absent, numbered)
          by (Some k) found =
              found_both (is_kept_at same own ip) (λ (k : KeptOf N). goes same decides gone k && is_numbered k.arm (turn, Arp own ip)) rows
              (λ x is here. and_from _ _ (let there = place_from_test same decides own ip x.entry.half x.entry.ip here in (λ i. gone (there.halves i) (there.addresses i)) ∙ going)
              (sym (ap (λ o. is_numbered (option_and_then (λ (k : KeptOf N). k.arm) o) (turn, Arp own ip)) is) ∙ numbered))
              (found-some (is_kept_at same own ip) rows k found)
      number_goes (turn, Ping id arm) is going = cc

      alike : (e : Timed N) → IsKnown e → not (is_stopped rows e) ≡ not (is_timer_where gone e.1)
      alike e is = by (is_stopped rows e) (is_timer_where gone e.1) refl refl
        where
          by : (b c : Bool) → is_stopped rows e ≡ b → is_timer_where gone e.1 ≡ c → not b ≡ not c
          by true true a z = refl
          by false false a z = refl
          by true false a z = absurd (both_ways _ z (timer_goes e is a))
          by false true a z = absurd (both_ways _ a (number_goes e is z))

      pub gone-stopped : without_gone gone rows t ≡ without_timers_where gone t
      gone-stopped =
          all_stopped rows t
          ∙ (λ i. record t {
            standing = filter_alike (λ e. not (is_stopped rows e)) (λ (e : Timed N). not (is_timer_where gone e.1)) t.standing
                (weaker IsKnown (λ (e : Timed N). not (is_stopped rows e) ≡ not (is_timer_where gone e.1)) alike t.standing
                (each_case (λ (place : N × Ip4) (e : Timed N). is_timer_where (is_place same place.0 place.1) e.1 ≡ is_numbered (arm_of same place.0 place.1 rows) e) t.standing
                (λ place. recursion_from_All (λ (e : Timed N). is_timer_where (is_place same place.0 place.1) e.1 ≡ is_numbered (arm_of same place.0 place.1 rows) e) t.standing (known.tells place.0 place.1)))) i;
          })

      pub knows-left : KnowsArms same (left same decides gone rows) (without_timers_where gone t)
      knows-left = told-without same decides (λ half ip. arm_of same half ip rows) t known gone (λ half ip. arm_of same half ip (left same decides gone rows)) (arms_left same decides gone rows)
