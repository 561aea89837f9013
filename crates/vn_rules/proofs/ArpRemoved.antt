-- Entries that are set and removed by hand leave a stack sound, and so does the turn of an entry's timer.
use Rattle.std.proofs.Common.{◌≡◌, ℕ, ◌+◌, Bool, true, false, cond, ◌||◌, ◌==◌, length, Option, Some, None, refl, sym, ap, ◌∙◌, arith}
use Rattle.std.specs.Bool.{Decides}
use Rattle.std.specs.Prelude.{nat_lt, nat_le, is_none, unwrap_or}
use Rattle.std.specs.Option.{option_map_or}
use Rattle.std.proofs.lemmas.Bool.{and_parts, and_from, or_left, or_right, ltb-true, lt-ltb, le-leb}
use Rattle.std.proofs.lemmas.List.Folds.{list_all-map}
use Rattle.vn_types.specs.declared.address.Ip4.{Ip4}
use Rattle.vn_types.specs.declared.address.Mac.{Mac}
use Rattle.vn_types.specs.declared.interface.IfOf.TheVariants.{Half}
use Rattle.vn_rules.specs.declared.arp.ArpEntryOf.{ArpEntryOf}
use Rattle.vn_rules.specs.declared.arp.ArpState.{ArpState}
use Rattle.vn_rules.specs.declared.arp.ArpState.TheVariants.{Incomplete, Learnt, Static, Down}
use Rattle.vn_rules.specs.declared.arp.TheConstants.{HELD_MAX, REQUESTS_MAX}
use Rattle.vn_rules.specs.declared.parts.PartsOf.{PartsOf}
use Rattle.vn_rules.specs.Arp.{new_entry, without_entries, is_place, is_entry_at, entry_of}
use Rattle.vn_rules.specs.Interfaces.{is_among}
use Rattle.vn_rules.specs.Orders.{is_right_in, are_arp_entries}
use Rattle.vn_rules.specs.Resolution.{request_time, down_time, Ask, GivesUp, turn_in, turn_of, asked, given_up, turned, after_turn, after_static, after_arp_set, after_arp_delete}
use Rattle.vn_rules.specs.Routes.{covers, gateway_half}
use Rattle.vn_rules.specs.Soundness.{timers_wanted, times_arp_but, covers_arp, is_sound_parts, is_sound_but}
use Rattle.vn_rules.proofs.ArpFacts.{has_but, has_own, own-apart}
use Rattle.vn_rules.proofs.ArpKept.{absent-but, after_static-sound, from_base, timed_entry-sound}
use Rattle.vn_rules.proofs.ArpRemoval.{without_entries-retimed, without_entries-sound}
use Rattle.vn_rules.proofs.ArpPlaces.{place_from_test, base-place}
use Rattle.vn_rules.proofs.ListTests.{absent-none, all_weaker, find_passes, find_all}
use Rattle.vn_rules.proofs.RouteAdded.{gateway-own, gateway-covered}
use Rattle.vn_rules.proofs.SoundFacts.{facts_from_sound}

module _ {N : Type 0} (same : N → N → Bool) (decides : (g h : N) → Decides (same g h) (g ≡ h)) (p : PartsOf N) where
  pub after_arp_delete-sound : (ip : Ip4) → is_sound_parts same p ≡ true → is_sound_parts same (after_arp_delete ip p) ≡ true
  unfolding after_arp_delete
  after_arp_delete-sound ip sound = without_entries-sound same decides (λ half own. own.0 == ip.0) p sound

  -- an entry that is set by hand, on the half beyond which the address lies
  pub after_arp_set-sound : (ip : Ip4) (mac : Mac) → is_sound_parts same p ≡ true → is_sound_parts same (after_arp_set same ip mac p) ≡ true
  unfolding after_arp_set
  after_arp_set-sound ip mac sound = by (gateway_half ip p.routes) refl
    where
      by : (o : Option N) → gateway_half ip p.routes ≡ o → is_sound_parts same (option_map_or (λ half. after_static same half ip mac p) o p) ≡ true
      by None is = sound
      by (Some half) is = after_static-sound same decides half ip p sound (gateway-own same decides p sound ip half is) (gateway-covered same decides ip half p.routes is) mac

  -- ---- the turn of an entry's timer

  module _ (half : N) (ip : Ip4) (sound : is_sound_but same half ip p ≡ true) where
    removed-sound : is_sound_parts same (without_entries (is_place same half ip) p) ≡ true
    unfolding times_arp_but
    removed-sound =
        let f = facts_from_sound same (times_arp_but same half ip) p sound in
        without_entries-retimed same decides (is_place same half ip) p (times_arp_but same half ip) f (all_weaker (has_but same decides half ip p) _ (λ e is. by (is_entry_at same half ip e) e refl is) p.arp f.arp_timed)
      where
        by : (b : Bool) (e : ArpEntryOf N) → is_entry_at same half ip e ≡ b → has_but same decides half ip p e ≡ true → (is_entry_at same half ip e || has_own same decides half ip p e) ≡ true
        by true e is holds = or_left _ _ is
        by false e is holds = or_right (is_entry_at same half ip e) _ (sym (own-apart same decides half ip p e is) ∙ holds)

    -- what the entry that is there does by its state
    module _ (now : ℕ) (e : ArpEntryOf N) (found : entry_of same half ip p.arp ≡ Some e) (among : is_among same p.interfaces (Half half) ≡ true) (covered : covers same (Half half) ip p.routes ≡ true) where
      basis : from_base same decides half ip p ≡ e
      basis = ap (λ o. unwrap_or o (new_entry half ip)) found

      asked-sound : e.state ≡ Incomplete → is_right_in Incomplete e ≡ true → (b : Bool) → nat_lt e.requests REQUESTS_MAX ≡ b → is_sound_parts same (turned same now half ip p (cond b Ask (GivesUp (length e.held)))) ≡ true
      asked-sound state right true more =
          let three = and_parts _ (nat_le (length e.held) HELD_MAX) right in
          let two = and_parts _ (nat_le e.requests REQUESTS_MAX) three.0 in
          let one = and_parts (is_none e.mac) _ two.0 in
          let less = ltb-true e.requests REQUESTS_MAX more in
          timed_entry-sound same decides half ip p asked (base-place same decides half ip p.arp)
          (ap (λ d. is_right_in (asked d).state (asked d)) basis ∙ ap (λ s. is_right_in s (asked e)) state
          ∙ and_from _ _ (and_from _ _ (and_from _ _ one.0 (lt-ltb 0 (e.requests + 1) (omega arith))) (le-leb (e.requests + 1) REQUESTS_MAX (omega (arith, less)))) three.1)
          among covered sound (ap (λ (d : ArpEntryOf N). timers_wanted same d.state) basis ∙ ap (timers_wanted same) state) (now + request_time)
      asked-sound state right false more =
          let three = and_parts _ (nat_le (length e.held) HELD_MAX) right in
          let two = and_parts _ (nat_le e.requests REQUESTS_MAX) three.0 in
          let one = and_parts (is_none e.mac) _ two.0 in
          timed_entry-sound same decides half ip p given_up (base-place same decides half ip p.arp) (ap (λ d. is_right_in (given_up d).state (given_up d)) basis ∙ and_from _ _ one.0 refl) among covered sound refl
          (now + down_time)

      turned-sound : (s : ArpState) → e.state ≡ s → is_right_in s e ≡ true → is_sound_parts same (turned same now half ip p (turn_in s e.requests (length e.held))) ≡ true
      turned-sound Incomplete state right = asked-sound state right (nat_lt e.requests REQUESTS_MAX) refl
      turned-sound Learnt state right = removed-sound
      turned-sound Static state right = removed-sound
      turned-sound Down state right = removed-sound

    pub after_turn-sound : (now : ℕ) → is_sound_parts same (after_turn same now half ip p) ≡ true
    unfolding after_turn covers_arp are_arp_entries
    after_turn-sound now = by (entry_of same half ip p.arp) refl
      where
        by : (o : Option (ArpEntryOf N)) → entry_of same half ip p.arp ≡ o → is_sound_parts same (option_map_or (λ (e : ArpEntryOf N). turned same now half ip p (turn_of e)) o p) ≡ true
        by None is = absent-but same decides half ip p (absent-none (is_entry_at same half ip) p.arp is) sound
        by (Some e) is =
            let f = facts_from_sound same (times_arp_but same half ip) p sound in
            let here = place_from_test same decides half ip e.half e.ip (find_passes (is_entry_at same half ip) p.arp e is) in
            let names = sym (list_all-map (is_among same p.interfaces) (λ (e : ArpEntryOf N). Half e.half) p.arp) ∙ f.arp_names in
            turned-sound now e is
            (sym (ap (λ h. is_among same p.interfaces (Half h)) here.halves) ∙ find_all (is_entry_at same half ip) (λ (e : ArpEntryOf N). is_among same p.interfaces (Half e.half)) p.arp e is names)
            (sym (λ i. covers same (Half (here.halves i)) (here.addresses i) p.routes) ∙ find_all (is_entry_at same half ip) (λ (e : ArpEntryOf N). covers same (Half e.half) e.ip p.routes) p.arp e is f.arp_covered)
            e.state refl (find_all (is_entry_at same half ip) (λ (e : ArpEntryOf N). is_right_in e.state e) p.arp e is f.arp)
