-- ARP entries go with their timers: nothing new is named, and the parts stay sound.
use Rattle.std.proofs.Common.{◌≡◌, ℕ, Bool, true, false, not, ◌||◌, ◌==◌, refl, sym, ap, ◌∙◌}
use Rattle.std.specs.List.{list_all, count_by, filter}
use Rattle.std.specs.Bool.{Decides}
use Rattle.std.proofs.lemmas.Bool.{or_right, and_parts, both_ways, not-true, not-false, false_from_ne_true, false≢true, eqb-true}
use Rattle.vn_types.specs.declared.address.Ip4.{Ip4}
use Rattle.vn_types.specs.declared.interface.IfOf.{IfOf}
use Rattle.vn_types.specs.declared.interface.IfOf.TheVariants.{Half}
use Rattle.vn_rules.specs.declared.arp.ArpEntryOf.{ArpEntryOf}
use Rattle.vn_rules.specs.declared.ping.PingOf.{PingOf}
use Rattle.vn_rules.specs.declared.timer.TimerOf.TheVariants.{Arp, Ping}
use Rattle.vn_rules.specs.declared.parts.PartsOf.{PartsOf}
use Rattle.vn_rules.specs.Arp.{is_timer_at, is_timer_where, without_entries}
use Rattle.vn_rules.specs.Orders.{are_arp_entries}
use Rattle.vn_rules.specs.Pings.{is_timer_for}
use Rattle.vn_rules.specs.Soundness.{is_sound_parts, sends_locally, has_owner, owns_timers, times_pings, times_arp, timers_wanted, gave_arms, has_distinct_entries, covers_arp}
use Rattle.vn_rules.specs.Timers.{Timed}
use Rattle.vn_rules.proofs.Kept.{all_filtered, all_passed, any_filter, count_filter}
use Rattle.vn_rules.specs.Interfaces.{is_among}
use Rattle.vn_rules.proofs.ListTests.{all_filter, all_weaker, distinct_filter}
use Rattle.vn_rules.proofs.Named.{NamesPass, own_names}
use Rattle.vn_rules.proofs.SoundEdits.{timing-sound}
use Rattle.vn_rules.proofs.SoundFacts.{SoundFacts, facts_from_sound}
use Rattle.vn_rules.proofs.TimerEdits.{are_timers-kept}

module _ {N : Type 0} (gone : N → Ip4 → Bool) (p : PartsOf N) where
  abbrev stays : ArpEntryOf N → Bool
  stays e = not (gone e.half e.ip)

  abbrev timer_stays : Timed N → Bool
  timer_stays e = not (is_timer_where gone e.1)

  pub without_entries-names : (t : IfOf N → Bool) → NamesPass t p → NamesPass t (without_entries gone p)
  unfolding without_entries
  without_entries-names t pass = record {
    addresses = pass.addresses;
    routes = pass.routes;
    arp = all_filter stays (λ (e : ArpEntryOf N). t (Half e.half)) p.arp pass.arp;
    pings = pass.pings;
    grams = pass.grams;
  }

  -- none of them is left, and none of their timers
  pub without_entries-passed : list_all stays (without_entries gone p).arp ≡ true
  unfolding without_entries
  without_entries-passed = all_passed stays p.arp

  pub without_entries-stopped : list_all timer_stays (without_entries gone p).timers.standing ≡ true
  unfolding without_entries
  without_entries-stopped = all_passed timer_stays p.timers.standing

module _ {N : Type 0} (same : N → N → Bool) (decides : (a b : N) → Decides (same a b) (a ≡ b)) (gone : N → Ip4 → Bool) (p : PartsOf N)
    (times : PartsOf N → Bool) (s : SoundFacts same times p) (counted : list_all (λ a. gone a.half a.ip || (count_by (is_timer_at same a) p.timers.standing == timers_wanted same a.state)) p.arp ≡ true) where
  -- a timer is gone with its entry
  at_one : (e : ArpEntryOf N) (at : ℕ × ℕ) (half : N) (ip : Ip4) → is_timer_at same e (at, Arp half ip) ≡ true → gone half ip ≡ gone e.half e.ip
  at_one e at half ip f =
      let parts = and_parts (same half e.half) (ip.0 == e.ip.0) f in
      let there : half ≡ e.half = (decides half e.half).0 parts.0 in
      let number : ip.0 ≡ e.ip.0 = eqb-true ip.0 e.ip.0 parts.1 in
      λ i. gone (there i) (record { 0 = number i })

  owned : owns_timers same (without_entries gone p) ≡ true
  unfolding owns_timers without_entries
  owned = all_filtered (has_owner same p) (has_owner same (without_entries gone p)) (timer_stays gone p) p.timers.standing by s.owned
    where
      by : (e : Timed N) → timer_stays gone p e ≡ true → has_owner same p e ≡ true → has_owner same (without_entries gone p) e ≡ true
      by (at, Ping id arm) kept owner = owner
      by (at, Arp half ip) kept owner = any_filter (λ a. is_timer_at same a (at, Arp half ip)) (stays gone p) p.arp left ∙ owner
        where
          left : (a : ArpEntryOf N) → stays gone p a ≡ false → is_timer_at same a (at, Arp half ip) ≡ false
          left a goes = false_from_ne_true _ (λ f. both_ways (gone half ip) (not-true _ kept) (at_one a at half ip f ∙ not-false _ goes))

  pings_timed : times_pings (without_entries gone p) ≡ true
  unfolding times_pings without_entries
  pings_timed = all_weaker (λ g. count_by (is_timer_for g) p.timers.standing == 1) (λ g. count_by (is_timer_for g) (filter (timer_stays gone p) p.timers.standing) == 1) by p.pings.awaited s.pings_timed
    where
      untimed : (g : PingOf N) (e : Timed N) → timer_stays gone p e ≡ false → is_timer_for g e ≡ false
      untimed g (at, Arp half ip) goes = refl
      untimed g (at, Ping id arm) goes = absurd (false≢true (sym goes))

      by : (g : PingOf N) → (count_by (is_timer_for g) p.timers.standing == 1) ≡ true → (count_by (is_timer_for g) (filter (timer_stays gone p) p.timers.standing) == 1) ≡ true
      by g alone = ap (λ n. n == 1) (count_filter (is_timer_for g) (timer_stays gone p) p.timers.standing (λ e _. untimed g e)) ∙ alone

  arp_timed : times_arp same (without_entries gone p) ≡ true
  unfolding times_arp without_entries
  arp_timed = all_filtered (λ a. gone a.half a.ip || (count_by (is_timer_at same a) p.timers.standing == timers_wanted same a.state)) (λ a. count_by (is_timer_at same a) (filter (timer_stays gone p) p.timers.standing) == timers_wanted same a.state) (stays gone p) p.arp by counted
    where
      untimed : (a : ArpEntryOf N) → stays gone p a ≡ true → (e : Timed N) → timer_stays gone p e ≡ false → is_timer_at same a e ≡ false
      untimed a kept (at, Ping id arm) goes = refl
      untimed a kept (at, Arp half ip) goes = false_from_ne_true _ (λ f. both_ways (gone a.half a.ip) (not-true _ kept) (sym (at_one a at half ip f) ∙ not-false _ goes))

      by : (a : ArpEntryOf N) → stays gone p a ≡ true → (gone a.half a.ip || (count_by (is_timer_at same a) p.timers.standing == timers_wanted same a.state)) ≡ true
          → (count_by (is_timer_at same a) (filter (timer_stays gone p) p.timers.standing) == timers_wanted same a.state) ≡ true
      by a kept right = ap (λ n. n == timers_wanted same a.state) (count_filter (is_timer_at same a) (timer_stays gone p) p.timers.standing (λ e _. untimed a kept e))
          ∙ sym (ap (λ b. b || (count_by (is_timer_at same a) p.timers.standing == timers_wanted same a.state)) (not-true _ kept)) ∙ right

  -- where each entry that stays has its own timers
  pub without_entries-retimed : is_sound_parts same (without_entries gone p) ≡ true
  unfolding without_entries sends_locally gave_arms has_distinct_entries covers_arp are_arp_entries
  without_entries-retimed =
      timing-sound same p (without_entries gone p) times (times_arp same) s
      (without_entries-names gone p (is_among same p.interfaces) (own_names same times p s))
      s.sources owned pings_timed
      (distinct_filter (stays gone p) _ p.arp s.entries_apart)
      arp_timed
      (all_filter (stays gone p) _ p.arp s.arp_covered)
      (all_filter (timer_stays gone p) _ p.timers.standing s.arms_given)
      s.arms_apart
      (all_filter (stays gone p) _ p.arp s.arp)
      (are_timers-kept (timer_stays gone p) p.timers s.timers) s.pings

pub without_entries-sound : {N : Type 0} (same : N → N → Bool) (decides : (a b : N) → Decides (same a b) (a ≡ b)) (gone : N → Ip4 → Bool) (p : PartsOf N) → is_sound_parts same p ≡ true → is_sound_parts same (without_entries gone p) ≡ true
unfolding times_arp
without_entries-sound same decides gone p sound =
    let f = facts_from_sound same (times_arp same) p sound in
    without_entries-retimed same decides gone p (times_arp same) f (all_weaker (λ a. count_by (is_timer_at same a) p.timers.standing == timers_wanted same a.state) _ (λ a is. or_right (gone a.half a.ip) _ is) p.arp f.arp_timed)
