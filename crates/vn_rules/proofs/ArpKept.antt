-- What is held, learnt, asked again, given up, set and removed leaves a stack sound.
use Rattle.std.proofs.Common.{◌≡◌, ℕ, ◌+◌, ◌-◌, Bool, true, false, cond, ◌&&◌, ◌||◌, List, [], ◌∷◌, ◌++◌, drop, length, Option, Some, None, refl, sym, ap, ◌∙◌, arith}
use Rattle.std.specs.Bool.{Decides}
use Rattle.std.specs.Prelude.{nat_lt, nat_le, is_some, is_none, unwrap_or}
use Rattle.std.specs.List.{list_any}
use Rattle.std.specs.Option.{option_map_or, option_and_then}
use Rattle.std.proofs.lemmas.Bool.{both_ways, and_parts, and_from, le-leb}
use Rattle.std.proofs.lemmas.List.{length-drop}
use Rattle.vn_types.specs.declared.address.Ip4.{Ip4}
use Rattle.vn_types.specs.declared.address.Mac.{Mac}
use Rattle.vn_types.specs.declared.interface.IfOf.TheVariants.{Half}
use Rattle.vn_rules.specs.declared.arp.ArpEntryOf.{ArpEntryOf}
use Rattle.vn_rules.specs.declared.arp.ArpState.{ArpState}
use Rattle.vn_rules.specs.declared.arp.ArpState.TheVariants.{Incomplete, Learnt, Static, Down}
use Rattle.vn_rules.specs.declared.arp.TheConstants.{HELD_MAX, REQUESTS_MAX}
use Rattle.vn_rules.specs.declared.timer.TimerOf.TheVariants.{Arp}
use Rattle.vn_rules.specs.declared.parts.PartsOf.{PartsOf}
use Rattle.vn_rules.specs.Arp.{newest, new_entry, known_mac, is_known, is_down_state, holding, resolved, is_entry_at, entry_of, with_entry, hit, is_down}
use Rattle.vn_rules.specs.Interfaces.{is_among}
use Rattle.vn_rules.specs.Orders.{is_right_in, are_arp_entries}
use Rattle.vn_rules.specs.Resolution.{request_time, learnt_time, timed_entry, untimed, after_hold, merges, adds, after_input, after_static}
use Rattle.vn_rules.specs.Routes.{covers}
use Rattle.vn_rules.specs.Soundness.{timers_wanted, has_distinct_entries, times_arp, times_arp_but, is_sound_parts, is_sound_but}
use Rattle.vn_rules.specs.Timers.{after_arm}
use Rattle.vn_rules.proofs.ArpFacts.{has_but, has_own, own-apart}
use Rattle.vn_rules.proofs.ArpPlaces.{base, base-place, with_entry-put}
use Rattle.vn_rules.proofs.ArpTimed.{all_apart, untimed-sound, timed-sound, untimed_put-sound, kept_put-sound}
use Rattle.vn_rules.proofs.ListTests.{absent-none, find_all}
use Rattle.vn_rules.proofs.SoundEdits.{retimed}
use Rattle.vn_rules.proofs.SoundFacts.{SoundFacts, facts_from_sound}

-- the newest of a list are as many as asked for, or fewer
pub newest-length : {X : Type 0} (n : ℕ) (xs : List X) → nat_le (length (newest n xs)) n ≡ true
newest-length n xs = let rest : length (drop (length xs - n) xs) ≡ length xs - (length xs - n) = length-drop (length xs - n) xs in le-leb (length (newest n xs)) n (omega arith)

module _ {N : Type 0} (same : N → N → Bool) (decides : (g h : N) → Decides (same g h) (g ≡ h)) (half : N) (ip : Ip4) where
  -- ---- what is changed there, by the entry that it is changed from

  abbrev pub from_base : PartsOf N → ArpEntryOf N
  from_base p = base same decides half ip p.arp

  module _ (p : PartsOf N) (f : ArpEntryOf N → ArpEntryOf N) (there : is_entry_at same half ip (f (from_base p)) ≡ true) (right : is_right_in (f (from_base p)).state (f (from_base p)) ≡ true)
      (among : is_among same p.interfaces (Half half) ≡ true) (covered : covers same (Half half) ip p.routes ≡ true) (sound : is_sound_but same half ip p ≡ true) where
    apart : has_distinct_entries same p.arp ≡ true
    apart = SoundFacts.entries_apart (facts_from_sound same (times_arp_but same half ip) p sound)

    pub timed_entry-sound : timers_wanted same (f (from_base p)).state ≡ 1 → (deadline : ℕ) → is_sound_parts same (timed_entry same deadline half ip f p) ≡ true
    timed_entry-sound wanted deadline =
        ap (λ es. is_sound_parts same (record p { arp = es; timers = after_arm deadline (Arp half ip) p.timers })) (with_entry-put same decides half ip f p.arp apart)
        ∙ timed-sound same decides half ip p sound (f (from_base p)) there right among covered wanted deadline

    pub untimed_entry-sound : timers_wanted same (f (from_base p)).state ≡ 0 → is_sound_parts same (record p { arp = with_entry same half ip f p.arp }) ≡ true
    untimed_entry-sound wanted =
        ap (λ es. is_sound_parts same (record p { arp = es })) (with_entry-put same decides half ip f p.arp apart)
        ∙ untimed_put-sound same decides half ip p sound (f (from_base p)) there right among covered wanted

  -- without an entry nothing is missing
  pub but-absent : (p : PartsOf N) → list_any (is_entry_at same half ip) p.arp ≡ false → is_sound_parts same p ≡ true → is_sound_but same half ip p ≡ true
  unfolding times_arp times_arp_but
  but-absent p none sound =
      let f = facts_from_sound same (times_arp same) p sound in
      retimed same (times_arp same) (times_arp_but same half ip) p f
      (all_apart (has_own same decides half ip p) (is_entry_at same half ip) (has_but same decides half ip p) (λ e holds apart. own-apart same decides half ip p e apart ∙ holds) p.arp none f.arp_timed)

  pub absent-but : (p : PartsOf N) → list_any (is_entry_at same half ip) p.arp ≡ false → is_sound_but same half ip p ≡ true → is_sound_parts same p ≡ true
  unfolding times_arp times_arp_but
  absent-but p none sound =
      let f = facts_from_sound same (times_arp_but same half ip) p sound in
      retimed same (times_arp_but same half ip) (times_arp same) p f
      (all_apart (has_but same decides half ip p) (is_entry_at same half ip) (has_own same decides half ip p) (λ e holds apart. sym (own-apart same decides half ip p e apart) ∙ holds) p.arp none f.arp_timed)

  -- ---- a packet, and what is set by hand

  module _ (p : PartsOf N) (sound : is_sound_parts same p ≡ true) (among : is_among same p.interfaces (Half half) ≡ true) (covered : covers same (Half half) ip p.routes ≡ true) where
    pub after_input-sound : (now : ℕ) (mac : Mac) (is_target : Bool) → is_sound_parts same (after_input same now half ip mac is_target p) ≡ true
    unfolding after_input
    after_input-sound now mac is_target = by (merges same half ip p.arp || adds same half ip is_target p.arp)
      where
        by : (b : Bool) → is_sound_parts same (cond b (timed_entry same (now + learnt_time) half ip (resolved Learnt mac) (untimed same half ip p)) p) ≡ true
        by true =
            timed_entry-sound (untimed same half ip p) (resolved Learnt mac) (base-place same decides half ip p.arp) refl among covered (untimed-sound same decides half ip p sound) refl (now + learnt_time)
        by false = sound

    pub after_static-sound : (mac : Mac) → is_sound_parts same (after_static same half ip mac p) ≡ true
    unfolding after_static
    after_static-sound mac =
        untimed_entry-sound (untimed same half ip p) (resolved Static mac) (base-place same decides half ip p.arp) refl among covered (untimed-sound same decides half ip p sound) refl

    -- a datagram is held for an address that is neither known nor down
    pub after_hold-sound : (now : ℕ) (octets : List ℕ) → hit same half ip p.arp ≡ None → is_down same half ip p.arp ≡ false → is_sound_parts same (after_hold same now half ip octets p) ≡ true
    unfolding after_hold are_arp_entries
    after_hold-sound now octets unknown up = by (entry_of same half ip p.arp) refl unknown up
      where
        holds_right : (e : ArpEntryOf N) → e.state ≡ Incomplete → is_right_in Incomplete e ≡ true → is_right_in (holding octets e).state (holding octets e) ≡ true
        holds_right e state right =
            let two = and_parts (is_none e.mac && nat_lt 0 e.requests && nat_le e.requests REQUESTS_MAX) _ right in
            ap (λ s. is_right_in s (holding octets e)) state ∙ and_from _ _ two.0 (newest-length HELD_MAX (e.held ++ octets ∷ []))

        after : Option (ArpEntryOf N) → PartsOf N
        after o = cond (is_none o) (timed_entry same (now + request_time) half ip (holding octets) p) (record p { arp = with_entry same half ip (holding octets) p.arp })

        incomplete : (e : ArpEntryOf N) (s : ArpState) → e.state ≡ s → is_right_in s e ≡ true → cond (is_known s) e.mac None ≡ None → is_down_state s ≡ false → s ≡ Incomplete
        incomplete e Incomplete state right unknown up = refl
        incomplete e Learnt state right unknown up = let none = ap is_some unknown in let two = and_parts (is_some e.mac) _ right in absurd (both_ways _ none two.0)
        incomplete e Static state right unknown up = let none = ap is_some unknown in let two = and_parts (is_some e.mac) _ right in absurd (both_ways _ none two.0)
        incomplete e Down state right unknown up = absurd (cc)

        by : (o : Option (ArpEntryOf N)) → entry_of same half ip p.arp ≡ o → option_and_then known_mac o ≡ None → option_map_or (λ (e : ArpEntryOf N). is_down_state e.state) o false ≡ false → is_sound_parts same (after (entry_of same half ip p.arp)) ≡ true
        by None is unknown up =
            let basis : from_base p ≡ new_entry half ip = ap (λ o. unwrap_or o (new_entry half ip)) is in
            ap (λ o. is_sound_parts same (after o)) is
            ∙ timed_entry-sound p (holding octets) (base-place same decides half ip p.arp) (ap (λ e. is_right_in (holding octets e).state (holding octets e)) basis ∙ holds_right (new_entry half ip) refl refl) among covered
            (but-absent p (absent-none (is_entry_at same half ip) p.arp is) sound) (ap (λ (e : ArpEntryOf N). timers_wanted same e.state) basis) (now + request_time)
        by (Some e) is unknown up =
            let basis : from_base p ≡ e = ap (λ o. unwrap_or o (new_entry half ip)) is in
            let f = facts_from_sound same (times_arp same) p sound in
            let right : is_right_in e.state e ≡ true = find_all (is_entry_at same half ip) (λ (e : ArpEntryOf N). is_right_in e.state e) p.arp e is f.arp in
            let state : e.state ≡ Incomplete = incomplete e e.state refl right unknown up in
            ap (λ o. is_sound_parts same (after o)) is
            ∙ ap (λ es. is_sound_parts same (record p { arp = es })) (with_entry-put same decides half ip (holding octets) p.arp f.entries_apart)
            ∙ kept_put-sound same decides half ip p sound e (holding octets (from_base p)) is (base-place same decides half ip p.arp) (ap (λ (d : ArpEntryOf N). d.state) basis)
            (ap (λ d. is_right_in (holding octets d).state (holding octets d)) basis ∙ holds_right e state (ap (λ s. is_right_in s e) (sym state) ∙ right)) among covered
