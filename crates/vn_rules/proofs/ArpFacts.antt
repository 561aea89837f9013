-- What a sound stack tells of the entry and the timer of an address on a half, and what keeps it sound there.
use Rattle.std.proofs.Common.{◌≡◌, Bool, true, false, cond, ◌==◌, Option, Some, None, refl, sym, ap, ◌∙◌}
use Rattle.std.specs.Bool.{Decides}
use Rattle.std.specs.List.{list_any, count_by}
use Rattle.std.proofs.lemmas.Bool.{both_ways, false_from_ne_true, eqb-true}
use Rattle.vn_types.specs.declared.address.Ip4.{Ip4}
use Rattle.vn_types.specs.declared.interface.IfOf.TheVariants.{Half}
use Rattle.vn_rules.specs.declared.arp.ArpEntryOf.{ArpEntryOf}
use Rattle.vn_rules.specs.declared.timer.TimerOf.TheVariants.{Arp, Ping}
use Rattle.vn_rules.specs.declared.timer.TimersOf.{TimersOf}
use Rattle.vn_rules.specs.declared.parts.PartsOf.{PartsOf}
use Rattle.vn_rules.specs.Arp.{is_timer_where, is_place, is_entry_at, entry_of, is_timer_at}
use Rattle.vn_rules.specs.Interfaces.{is_among}
use Rattle.vn_rules.specs.Orders.{is_right_in, are_arp_entries, are_timers}
use Rattle.vn_rules.specs.Routes.{covers}
use Rattle.vn_rules.specs.Soundness.{sends_locally, times_pings, gave_arms, has_owner, owns_timers, timers_wanted, times_arp, times_arp_but, covers_arp, is_sound_parts, is_sound_but}
use Rattle.vn_rules.specs.Timers.{Turn, Timed}
use Rattle.vn_rules.proofs.ArpPlaces.{AtPlace, place_from_test, test_from_place, put, all_put, any_put, distinct_put}
use Rattle.vn_rules.proofs.ListTests.{absent-none, none_weaker, find_passes, find_all}
use Rattle.vn_rules.proofs.TimerEdits.{zero_from_all}
use Rattle.vn_rules.proofs.Named.{own_names}
use Rattle.vn_rules.proofs.SoundEdits.{timing-sound}
use Rattle.vn_rules.proofs.SoundFacts.{SoundFacts, facts_from_sound}

module _ {N : Type 0} (same : N → N → Bool) (decides : (g h : N) → Decides (same g h) (g ≡ h)) (half : N) (ip : Ip4) where
  -- whether it is a timer of that place
  abbrev pub at_place : Timed N → Bool
  at_place t = is_timer_where (is_place same half ip) t.1

  -- the entry there has the timers of that place
  pub timers-there : (e : ArpEntryOf N) → is_entry_at same half ip e ≡ true → (t : Timed N) → is_timer_at same e t ≡ at_place t
  timers-there e is t =
      let here = place_from_test same decides half ip e.half e.ip is in
      λ i. is_timer_where (is_place same (here.halves i) (here.addresses i)) t.1

  -- another entry has none of them
  pub timers-apart : (e : ArpEntryOf N) → is_entry_at same half ip e ≡ false → (t : Timed N) → is_timer_at same e t ≡ true → at_place t ≡ false
  timers-apart e apart (turn, Arp own at) is =
      let there = place_from_test same decides e.half e.ip own at is in
      (λ i. is_place same half ip (there.halves i) (there.addresses i)) ∙ apart
  timers-apart e apart (turn, Ping id arm) is = refl

  pub new-there : (turn : Turn) → at_place (turn, Arp half ip) ≡ true
  new-there turn = test_from_place same decides half ip half ip (record { halves = refl; addresses = refl })

  pub new-apart : (e : ArpEntryOf N) → is_entry_at same half ip e ≡ false → (turn : Turn) → is_timer_at same e (turn, Arp half ip) ≡ false
  new-apart e apart turn = false_from_ne_true _ (λ is. both_ways _ (timers-apart e apart (turn, Arp half ip) is) (new-there turn))

  -- an entry that owns a timer of the place is there
  owner-there : (turn : Turn) (own : N) (at : Ip4) → is_place same half ip own at ≡ true → (e : ArpEntryOf N) → is_timer_at same e (turn, Arp own at) ≡ true → is_entry_at same half ip e ≡ true
  owner-there turn own at is e owns = by (is_entry_at same half ip e) refl
    where
      by : (b : Bool) → is_entry_at same half ip e ≡ b → is_entry_at same half ip e ≡ true
      by true there = there
      by false apart = absurd (both_ways _ (timers-apart e apart (turn, Arp own at) owns) is)

  module _ (p : PartsOf N) where
    -- without an entry there is no timer of the place
    no_owner : list_any (is_entry_at same half ip) p.arp ≡ false → (t : Timed N) → has_owner same p t ≡ true → at_place t ≡ false
    no_owner none (turn, Arp own at) owned =
        false_from_ne_true _ (λ is. both_ways _ (none_weaker (λ e. is_timer_at same e (turn, Arp own at)) (is_entry_at same half ip) (λ e. owner-there turn own at is e) p.arp none) owned)
    no_owner none (turn, Ping id arm) owned = refl

    pub no_timer-absent : list_any (is_entry_at same half ip) p.arp ≡ false → owns_timers same p ≡ true → count_by at_place p.timers.standing ≡ 0
    unfolding owns_timers
    no_timer-absent none owned = zero_from_all (has_owner same p) at_place (no_owner none) p.timers.standing owned

    -- the test of `times_arp_but`
    abbrev pub has_but : ArpEntryOf N → Bool
    has_but e = count_by (is_timer_at same e) p.timers.standing == cond (is_entry_at same half ip e) 0 (timers_wanted same e.state)

    abbrev pub has_own : ArpEntryOf N → Bool
    has_own e = count_by (is_timer_at same e) p.timers.standing == timers_wanted same e.state

    pub own-apart : (e : ArpEntryOf N) → is_entry_at same half ip e ≡ false → has_but e ≡ has_own e
    own-apart e apart = ap (λ b. count_by (is_timer_at same e) p.timers.standing == cond b 0 (timers_wanted same e.state)) apart

    -- where its timer was taken out there is none of the place
    pub no_timer : is_sound_but same half ip p ≡ true → count_by at_place p.timers.standing ≡ 0
    unfolding times_arp_but
    no_timer sound = by (facts_from_sound same (times_arp_but same half ip) p sound) (entry_of same half ip p.arp) refl
      where
        by : SoundFacts same (times_arp_but same half ip) p → (o : Option (ArpEntryOf N)) → entry_of same half ip p.arp ≡ o → count_by at_place p.timers.standing ≡ 0
        by f None is = no_timer-absent (absent-none (is_entry_at same half ip) p.arp is) f.owned
        by f (Some e) is =
            let there = find_passes (is_entry_at same half ip) p.arp e is in
            let none : count_by (is_timer_at same e) p.timers.standing ≡ 0 = eqb-true _ _ (sym (ap (λ b. count_by (is_timer_at same e) p.timers.standing == cond b 0 (timers_wanted same e.state)) there) ∙ find_all (is_entry_at same half ip) has_but p.arp e is f.arp_timed) in
            sym (λ i. count_by (λ t. timers-there e there t i) p.timers.standing) ∙ none

    -- ---- an entry is put there, and the timers are changed

    module _ (t : ArpEntryOf N) (ts : TimersOf N) where
      abbrev pub with_put : PartsOf N
      with_put = record p { arp = put same decides half ip t p.arp; timers = ts }

      -- a timer that had an owner has one
      pub owner-put : is_entry_at same half ip t ≡ true → (e : Timed N) → has_owner same p e ≡ true → has_owner same with_put e ≡ true
      owner-put there (turn, Arp own at) owned =
          any_put same decides half ip t (λ f. is_timer_at same f (turn, Arp own at)) (λ f is owns. timers-there t there (turn, Arp own at) ∙ sym (timers-there f is (turn, Arp own at)) ∙ owns) p.arp owned
      owner-put there (turn, Ping id arm) owned = owned

      pub put_sound : (times : PartsOf N → Bool) → SoundFacts same times p → is_entry_at same half ip t ≡ true → is_right_in t.state t ≡ true
          → is_among same p.interfaces (Half half) ≡ true → covers same (Half half) ip p.routes ≡ true
          → owns_timers same with_put ≡ true → times_pings with_put ≡ true → times_arp same with_put ≡ true → gave_arms with_put ≡ true → are_timers ts ≡ true → is_sound_parts same with_put ≡ true
      unfolding sends_locally covers_arp are_arp_entries
      put_sound times f there right among covered owned pings timed given order =
          let n = own_names same times p f in
          timing-sound same p with_put times (times_arp same) f
          (record {
            addresses = n.addresses;
            routes = n.routes;
            pings = n.pings;
            grams = n.grams;
            arp = all_put same decides half ip t (λ e. is_among same p.interfaces (Half e.half)) (λ e. is_among same p.interfaces (Half e.half)) (λ e is apart. is) (ap (λ h. is_among same p.interfaces (Half h)) here.halves ∙ among) p.arp n.arp;
          })
          f.sources owned pings
          (distinct_put same decides half ip t there p.arp f.entries_apart)
          timed
          (all_put same decides half ip t (λ e. covers same (Half e.half) e.ip p.routes) (λ e. covers same (Half e.half) e.ip p.routes) (λ e is apart. is)
          ((λ i. covers same (Half (here.halves i)) (here.addresses i) p.routes) ∙ covered) p.arp f.arp_covered)
          given f.arms_apart
          (all_put same decides half ip t (λ (e : ArpEntryOf N). is_right_in e.state e) (λ (e : ArpEntryOf N). is_right_in e.state e) (λ e is apart. is) right p.arp f.arp)
          order f.pings
        where
          here : AtPlace same decides half ip t.half t.ip
          here = place_from_test same decides half ip t.half t.ip there
