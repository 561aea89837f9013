-- Awaited pings go with their timers: nothing new is named, the parts stay sound, and renaming goes through.
use Rattle.std.proofs.Common.{◌≡◌, ℕ, Bool, true, false, not, ◌&&◌, ◌==◌, List, map, refl, sym, ap, ◌∙◌}
use Rattle.std.specs.List.{list_any, list_all, count_by, filter}
use Rattle.std.specs.Map.{keys_of}
use Rattle.std.proofs.lemmas.Bool.{and_parts, and_from, and_left, both_ways, not-true, not-false, not_from_true, false_from_ne_true, false≢true, eqb-true, eq-eqb}
use Rattle.vn_types.specs.declared.interface.IfOf.{IfOf}
use Rattle.vn_types.specs.Interfaces.{as_if}
use Rattle.vn_types.proofs.InterfaceNames.{if_same-as_if}
use Rattle.vn_types.proofs.ListMaps.{filter_map_same, any_map_same}
use Rattle.vn_rules.specs.declared.arp.ArpEntryOf.{ArpEntryOf}
use Rattle.vn_rules.specs.declared.ping.PingOf.{PingOf}
use Rattle.vn_rules.specs.declared.timer.TimerOf.TheVariants.{Arp, Ping}
use Rattle.vn_rules.specs.declared.parts.PartsOf.{PartsOf}
use Rattle.vn_rules.specs.Arp.{is_timer_at}
use Rattle.vn_rules.specs.Orders.{are_timers, are_pings, has_16_bits, are_rising, are_distinct}
use Rattle.vn_rules.specs.Pings.{is_timer_for, is_out_by, is_armed_by, without_pings}
use Rattle.vn_rules.specs.Renamed.{as_ping, as_timed, renamed}
use Rattle.vn_rules.specs.Addresses.{local}
use Rattle.vn_rules.specs.Soundness.{is_sound_parts, sends_locally, covers_arp, has_owner, owns_timers, times_pings, times_arp, timers_wanted, gave_arms, has_distinct_arms}
use Rattle.vn_rules.specs.Timers.{Timed, turn_cmp}
use Rattle.vn_rules.proofs.Kept.{IsIn, all_filtered, all_filtered_in, all_passed, any_filter_in, any_weaker, any_from_count, from_any, count_filter, not_both}
use Rattle.vn_rules.specs.Interfaces.{is_among}
use Rattle.vn_rules.proofs.ListTests.{all_filter, all_weaker, distinct_filter}
use Rattle.vn_rules.proofs.Named.{NamesPass, own_names}
use Rattle.vn_rules.proofs.SoundEdits.{timing-sound}
use Rattle.vn_rules.proofs.SoundFacts.{SoundFacts, facts_from_sound}
use Rattle.vn_rules.proofs.TimerEdits.{are_timers-kept}

module _ {N : Type 0} (gone : PingOf N → Bool) (p : PartsOf N) where
  abbrev stays : PingOf N → Bool
  stays g = not (gone g)

  abbrev timer_stays : Timed N → Bool
  timer_stays e = not (is_armed_by gone p.pings.awaited e)

  pub without_pings-names : (t : IfOf N → Bool) → NamesPass t p → NamesPass t (without_pings gone p)
  unfolding without_pings
  without_pings-names t pass = record {
    addresses = pass.addresses;
    routes = pass.routes;
    arp = pass.arp;
    pings = all_filter stays (λ (g : PingOf N). t g.out) p.pings.awaited pass.pings;
    grams = pass.grams;
  }

  -- none of them is left
  pub without_pings-passed : list_all stays (without_pings gone p).pings.awaited ≡ true
  unfolding without_pings
  without_pings-passed = all_passed stays p.pings.awaited

-- whether the timer is that of a ping, or of an ARP entry, with the arm number
module _ {N : Type 0} (arm : ℕ) where
  is_ping_armed : Timed N → Bool
  is_ping_armed (at, Arp half ip) = false
  is_ping_armed (at, Ping id own) = at.1 == arm

  is_arp_armed : Timed N → Bool
  is_arp_armed (at, Arp half ip) = at.1 == arm
  is_arp_armed (at, Ping id own) = false

module _ {N : Type 0} (same : N → N → Bool) (gone : PingOf N → Bool) (p : PartsOf N) (s : SoundFacts same (times_arp same) p) where
  abbrev pings_of : List (PingOf N)
  pings_of = p.pings.awaited

  abbrev timers_of : List (Timed N)
  timers_of = p.timers.standing

  abbrev is_armed_gone : ℕ → PingOf N → Bool
  is_armed_gone arm g = gone g && (arm == g.arm)

  abbrev stays_armed : ℕ → PingOf N → Bool
  stays_armed arm g = not (gone g) && (arm == g.arm)

  first_part : (g : PingOf N) (at : ℕ × ℕ) (id arm : ℕ) → is_timer_for g (at, Ping id arm) ≡ true → (at.1 == g.arm) ≡ true
  first_part g at id arm f = (and_parts _ _ (and_parts _ _ f).0).0

  owned : owns_timers same (without_pings gone p) ≡ true
  unfolding owns_timers without_pings
  owned = all_filtered (has_owner same p) (has_owner same (without_pings gone p)) (timer_stays gone p) timers_of by s.owned
    where
      by : (e : Timed N) → timer_stays gone p e ≡ true → has_owner same p e ≡ true → has_owner same (without_pings gone p) e ≡ true
      by (at, Arp half ip) kept owner = owner
      by (at, Ping id arm) kept owner = any_filter_in (λ g. is_timer_for g (at, Ping id arm)) (stays gone p) pings_of left ∙ owner
        where
          left : (g : PingOf N) → IsIn g pings_of → stays gone p g ≡ false → is_timer_for g (at, Ping id arm) ≡ false
          left g is goes = false_from_ne_true _ (λ f.
              both_ways (list_any (is_armed_gone at.1) pings_of) (not-true _ kept)
              (is (is_armed_gone at.1) (and_from (gone g) (at.1 == g.arm) (not-false (gone g) goes) (first_part g at id arm f))))

  pings_timed : times_pings (without_pings gone p) ≡ true
  unfolding times_pings without_pings has_distinct_arms
  pings_timed = all_filtered_in (λ g. count_by (is_timer_for g) timers_of == 1) (λ g. count_by (is_timer_for g) (filter (timer_stays gone p) timers_of) == 1) (stays gone p) pings_of by s.pings_timed
    where
      one : (arm : ℕ) (x y : PingOf N) → is_armed_gone arm x ≡ true → stays_armed arm y ≡ true → (x.arm == y.arm) ≡ true
      one arm x y e f = eq-eqb x.arm y.arm (sym (eqb-true arm x.arm (and_parts (gone x) (arm == x.arm) e).1) ∙ eqb-true arm y.arm (and_parts (not (gone y)) (arm == y.arm) f).1)

      other : (arm : ℕ) (x y : PingOf N) → is_armed_gone arm x ≡ true → stays_armed arm y ≡ true → (y.arm == x.arm) ≡ true
      other arm x y e f = eq-eqb y.arm x.arm (sym (eqb-true arm y.arm (and_parts (not (gone y)) (arm == y.arm) f).1) ∙ eqb-true arm x.arm (and_parts (gone x) (arm == x.arm) e).1)

      disjoint : (arm : ℕ) (x : PingOf N) → is_armed_gone arm x ≡ true → stays_armed arm x ≡ false
      disjoint arm x e = and_left (not (gone x)) (arm == x.arm) (not_from_true (gone x) (and_parts (gone x) (arm == x.arm) e).0)

      unarmed : (g : PingOf N) → IsIn g pings_of → stays gone p g ≡ true → (e : Timed N) → timer_stays gone p e ≡ false → is_timer_for g e ≡ false
      unarmed g is kept (at, Arp half ip) goes = refl
      unarmed g is kept (at, Ping id arm) goes = false_from_ne_true _ (λ f.
          both_ways (list_any (stays_armed at.1) pings_of)
          (not_both (λ (a : PingOf N) (b : PingOf N). a.arm == b.arm) (is_armed_gone at.1) (stays_armed at.1) pings_of s.arms_apart (one at.1) (other at.1) (disjoint at.1) (not-false (list_any (is_armed_gone at.1) pings_of) goes))
          (is (stays_armed at.1) (and_from (not (gone g)) (at.1 == g.arm) kept (first_part g at id arm f))))

      by : (g : PingOf N) → IsIn g pings_of → stays gone p g ≡ true → (count_by (is_timer_for g) timers_of == 1) ≡ true
          → (count_by (is_timer_for g) (filter (timer_stays gone p) timers_of) == 1) ≡ true
      by g is kept alone = ap (λ n. n == 1) (count_filter (is_timer_for g) (timer_stays gone p) timers_of (λ e _ goes. unarmed g is kept e goes)) ∙ alone

  arp_timed : times_arp same (without_pings gone p) ≡ true
  unfolding times_arp without_pings times_pings are_timers is_ping_armed is_arp_armed
  arp_timed = all_weaker (λ a. count_by (is_timer_at same a) timers_of == timers_wanted same a.state) (λ a. count_by (is_timer_at same a) (filter (timer_stays gone p) timers_of) == timers_wanted same a.state) by p.arp s.arp_timed
    where
      numbers : (x y : Timed N) (arm : ℕ) → is_ping_armed arm x ≡ true → is_arp_armed arm y ≡ true → x.0.1 ≡ y.0.1
      numbers (a, Ping i m) (b, Arp h j) arm e f = eqb-true a.1 arm e ∙ sym (eqb-true b.1 arm f)
      numbers (a, Arp h j) y arm e f = absurd (false≢true e)
      numbers (a, Ping i m) (b, Ping k n) arm e f = absurd (false≢true f)

      disjoint : (x : Timed N) (arm : ℕ) → is_ping_armed arm x ≡ true → is_arp_armed arm x ≡ false
      disjoint (a, Ping i m) arm e = refl
      disjoint (a, Arp h j) arm e = absurd (false≢true e)

      armed : (g : PingOf N) (arm : ℕ) (e : Timed N) → (arm == g.arm) ≡ true → is_timer_for g e ≡ true → is_ping_armed arm e ≡ true
      armed g arm (a, Arp h j) is f = absurd (false≢true f)
      armed g arm (a, Ping i m) is f = eq-eqb a.1 arm (eqb-true a.1 g.arm (first_part g a i m f) ∙ sym (eqb-true arm g.arm is))

      found : (arm : ℕ) → list_any (is_armed_gone arm) pings_of ≡ true → list_any (is_ping_armed arm) timers_of ≡ true
      found arm any = from_any (is_armed_gone arm) (λ g. count_by (is_timer_for g) timers_of == 1) (list_any (is_ping_armed arm) timers_of) pings_of
          (λ g is one. any_weaker (is_timer_for g) (is_ping_armed arm) timers_of (λ e. armed g arm e (and_parts (gone g) (arm == g.arm) is).1) (any_from_count (is_timer_for g) timers_of (eqb-true (count_by (is_timer_for g) timers_of) 1 one)))
          any s.pings_timed

      none : (arm : ℕ) → list_any (is_armed_gone arm) pings_of ≡ true → list_any (is_arp_armed arm) timers_of ≡ false
      none arm any = not_both (λ (e : Timed N) (f : Timed N). e.0.1 == f.0.1) (is_ping_armed arm) (is_arp_armed arm) timers_of (and_parts (are_rising turn_cmp (keys_of timers_of)) (are_distinct (λ (e : Timed N) (f : Timed N). e.0.1 == f.0.1) timers_of) s.timers).1
          (λ x y e f. eq-eqb x.0.1 y.0.1 (numbers x y arm e f)) (λ x y e f. eq-eqb y.0.1 x.0.1 (sym (numbers x y arm e f))) (λ x e. disjoint x arm e) (found arm any)

      untimed : (a : ArpEntryOf N) (e : Timed N) → IsIn e timers_of → timer_stays gone p e ≡ false → is_timer_at same a e ≡ false
      untimed a (at, Ping id arm) is goes = refl
      untimed a (at, Arp half ip) is goes = absurd (both_ways (list_any (is_arp_armed at.1) timers_of) (none at.1 (not-false (list_any (is_armed_gone at.1) pings_of) goes)) (is (is_arp_armed at.1) (eq-eqb at.1 at.1 refl)))

      by : (a : ArpEntryOf N) → (count_by (is_timer_at same a) timers_of == timers_wanted same a.state) ≡ true
          → (count_by (is_timer_at same a) (filter (timer_stays gone p) timers_of) == timers_wanted same a.state) ≡ true
      by a right = ap (λ n. n == timers_wanted same a.state) (count_filter (is_timer_at same a) (timer_stays gone p) timers_of (untimed a)) ∙ right

  without_pings-kept : is_sound_parts same (without_pings gone p) ≡ true
  unfolding without_pings sends_locally covers_arp gave_arms has_distinct_arms are_pings
  without_pings-kept =
      let g = and_parts (has_16_bits p.pings.next) _ s.pings in
      timing-sound same p (without_pings gone p) (times_arp same) (times_arp same) s
      (without_pings-names gone p (is_among same p.interfaces) (own_names same (times_arp same) p s))
      (all_filter (stays gone p) (λ (g : PingOf N). local g.src p.addresses) pings_of s.sources)
      owned pings_timed s.entries_apart arp_timed s.arp_covered
      (all_filter (timer_stays gone p) _ timers_of s.arms_given)
      (distinct_filter (stays gone p) _ pings_of s.arms_apart)
      s.arp
      (are_timers-kept (timer_stays gone p) p.timers s.timers)
      (and_from _ _ g.0 (all_filter (stays gone p) _ pings_of g.1))

pub without_pings-sound : {N : Type 0} (same : N → N → Bool) (gone : PingOf N → Bool) (p : PartsOf N) → is_sound_parts same p ≡ true → is_sound_parts same (without_pings gone p) ≡ true
without_pings-sound same gone p sound = without_pings-kept same gone p (facts_from_sound same (times_arp same) p sound)

-- ---- under other names of halves

module _ {N M : Type 0} (r : N → M) (gone_n : PingOf N → Bool) (gone_m : PingOf M → Bool) (agree : (g : PingOf N) → gone_m (as_ping r g) ≡ gone_n g) where
  pub without_pings-renamed : (p : PartsOf N) → without_pings gone_m (renamed r p) ≡ renamed r (without_pings gone_n p)
  unfolding without_pings renamed
  without_pings-renamed p i = record (renamed r p) {
    pings = record { next = p.pings.next; awaited = filter_map_same (as_ping r) (λ g. not (gone_n g)) (λ g. not (gone_m g)) (λ g. ap not (agree g)) p.pings.awaited i };
    timers = record {
      armed = p.timers.armed;
      standing = filter_map_same (as_timed r) (λ e. not (is_armed_by gone_n p.pings.awaited e)) (λ e. not (is_armed_by gone_m (map (as_ping r) p.pings.awaited) e))
          (λ e. ap not (any_map_same (as_ping r) (λ g. gone_n g && (e.0.1 == g.arm)) (λ g. gone_m g && (e.0.1 == g.arm)) (λ g. ap (λ b. b && (e.0.1 == g.arm)) (agree g)) p.pings.awaited))
          p.timers.standing i;
    };
  }

module _ {N M : Type 0} (r : N → M) (at_n : N → N → Bool) (at_m : M → M → Bool) (faithful : (a b : N) → at_m (r a) (r b) ≡ at_n a b) where
  pub is_out_by-renamed : (on : IfOf N) (g : PingOf N) → is_out_by at_m (as_if r on) (as_ping r g) ≡ is_out_by at_n on g
  is_out_by-renamed on g = if_same-as_if r at_n at_m faithful g.out on
