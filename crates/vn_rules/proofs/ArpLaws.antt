-- ARP entries and their timers under other names of halves: what is found and changed goes through a renaming.
use Rattle.std.proofs.Common.{◌≡◌, Bool, true, false, cond, not, ◌&&◌, ◌==◌, List, [], ◌∷◌, ◌++◌, map, Option, Some, None, refl, sym, ap, ◌∙◌}
use Rattle.std.specs.List.{list_any}
use Rattle.std.specs.Option.{option_map, option_map_or, option_and_then}
use Rattle.std.proofs.lemmas.List.{map-append}
use Rattle.vn_types.specs.declared.address.Ip4.{Ip4}
use Rattle.vn_types.proofs.ListMaps.{filter_map_same, any_map_same, find_map_same}
use Rattle.vn_rules.specs.declared.arp.ArpEntryOf.{ArpEntryOf}
use Rattle.vn_rules.specs.declared.timer.TimerOf.{TimerOf}
use Rattle.vn_rules.specs.declared.timer.TimerOf.TheVariants.{Arp, Ping}
use Rattle.vn_rules.specs.declared.timer.TimersOf.{TimersOf}
use Rattle.vn_rules.specs.declared.parts.PartsOf.{PartsOf}
use Rattle.vn_rules.specs.Arp.{is_down_state, new_entry, known_mac, is_timer_where, without_timers_where, without_entries, is_place, is_entry_at, entry_of, on_entry, with_entry, timer_at, without_timer_at, hit, is_down, held_for}
use Rattle.vn_rules.specs.Renamed.{as_arp, as_timer, as_timed, as_timers, renamed}
use Rattle.vn_rules.specs.Timers.{Timed}
use Rattle.vn_rules.proofs.ListEdits.{edit_map_same, option_map_or_same}

-- ---- by a test on halves and addresses

module _ {N M : Type 0} (r : N → M) (gone_n : N → Ip4 → Bool) (gone_m : M → Ip4 → Bool) (kept : (half : N) (ip : Ip4) → gone_m (r half) ip ≡ gone_n half ip) where
  pub is_timer_where-renamed : (t : TimerOf N) → is_timer_where gone_m (as_timer r t) ≡ is_timer_where gone_n t
  is_timer_where-renamed (Arp half ip) = kept half ip
  is_timer_where-renamed (Ping id arm) = refl

  pub without_timers_where-renamed : (t : TimersOf N) → without_timers_where gone_m (as_timers r t) ≡ as_timers r (without_timers_where gone_n t)
  without_timers_where-renamed t i = record {
    armed = t.armed;
    standing = filter_map_same (as_timed r) (λ (e : Timed N). not (is_timer_where gone_n e.1)) (λ (e : Timed M). not (is_timer_where gone_m e.1)) (λ e. ap not (is_timer_where-renamed e.1)) t.standing i;
  }

  pub without_entries-renamed : (p : PartsOf N) → without_entries gone_m (renamed r p) ≡ renamed r (without_entries gone_n p)
  unfolding without_entries renamed
  without_entries-renamed p i = record (renamed r p) {
    arp = filter_map_same (as_arp r) (λ (e : ArpEntryOf N). not (gone_n e.half e.ip)) (λ (e : ArpEntryOf M). not (gone_m e.half e.ip)) (λ e. ap not (kept e.half e.ip)) p.arp i;
    timers = without_timers_where-renamed p.timers i;
  }

-- ---- by half and address

module _ {N M : Type 0} (r : N → M) (at_n : N → N → Bool) (at_m : M → M → Bool) (faithful : (a b : N) → at_m (r a) (r b) ≡ at_n a b) (half : N) (ip : Ip4) where
  pub is_place-renamed : (own : N) (at : Ip4) → is_place at_m (r half) ip (r own) at ≡ is_place at_n half ip own at
  is_place-renamed own at = ap (λ b. b && (at.0 == ip.0)) (faithful own half)

  is_entry_at-renamed : (e : ArpEntryOf N) → is_entry_at at_m (r half) ip (as_arp r e) ≡ is_entry_at at_n half ip e
  is_entry_at-renamed e = is_place-renamed e.half e.ip

  pub entry_of-renamed : (es : List (ArpEntryOf N)) → entry_of at_m (r half) ip (map (as_arp r) es) ≡ option_map (as_arp r) (entry_of at_n half ip es)
  entry_of-renamed es = find_map_same (as_arp r) (is_entry_at at_n half ip) (is_entry_at at_m (r half) ip) is_entry_at-renamed es

  module _ (f : ArpEntryOf N → ArpEntryOf N) (g : ArpEntryOf M → ArpEntryOf M) (same : (e : ArpEntryOf N) → g (as_arp r e) ≡ as_arp r (f e)) where
    pub with_entry-renamed : (es : List (ArpEntryOf N)) → with_entry at_m (r half) ip g (map (as_arp r) es) ≡ map (as_arp r) (with_entry at_n half ip f es)
    with_entry-renamed es =
        rw (any_map_same (as_arp r) (is_entry_at at_n half ip) (is_entry_at at_m (r half) ip) is_entry_at-renamed es) (by (list_any (is_entry_at at_n half ip) es))
      where
        by : (b : Bool) → cond b (on_entry at_m (r half) ip g (map (as_arp r) es)) (map (as_arp r) es ++ g (new_entry (r half) ip) ∷ [])
            ≡ map (as_arp r) (cond b (on_entry at_n half ip f es) (es ++ f (new_entry half ip) ∷ []))
        by true = edit_map_same (as_arp r) (is_entry_at at_n half ip) (is_entry_at at_m (r half) ip) is_entry_at-renamed f g same es
        by false =
            ap (λ e. map (as_arp r) es ++ e ∷ []) (same (new_entry half ip)) ∙ sym (map-append (as_arp r) es (f (new_entry half ip) ∷ []))

  pub timer_at-renamed : (t : TimersOf N) → timer_at at_m (r half) ip (as_timers r t) ≡ option_map (as_timed r) (timer_at at_n half ip t)
  timer_at-renamed t =
      find_map_same (as_timed r) (λ (e : Timed N). is_timer_where (is_place at_n half ip) e.1) (λ (e : Timed M). is_timer_where (is_place at_m (r half) ip) e.1)
      (λ e. is_timer_where-renamed r (is_place at_n half ip) (is_place at_m (r half) ip) is_place-renamed e.1) t.standing

  pub without_timer_at-renamed : (t : TimersOf N) → without_timer_at at_m (r half) ip (as_timers r t) ≡ as_timers r (without_timer_at at_n half ip t)
  without_timer_at-renamed t = without_timers_where-renamed r (is_place at_n half ip) (is_place at_m (r half) ip) is_place-renamed t

  -- what is told of the entry that is found
  module _ {C : Type 0} (f : ArpEntryOf N → C) (g : ArpEntryOf M → C) (same : (e : ArpEntryOf N) → g (as_arp r e) ≡ f e) (d : C) where
    pub told-renamed : (es : List (ArpEntryOf N)) → option_map_or g (entry_of at_m (r half) ip (map (as_arp r) es)) d ≡ option_map_or f (entry_of at_n half ip es) d
    told-renamed es = ap (λ o. option_map_or g o d) (entry_of-renamed es) ∙ option_map_or_same (as_arp r) f g same d (entry_of at_n half ip es)

  pub hit-renamed : (es : List (ArpEntryOf N)) → hit at_m (r half) ip (map (as_arp r) es) ≡ hit at_n half ip es
  hit-renamed es = ap (option_and_then known_mac) (entry_of-renamed es) ∙ by (entry_of at_n half ip es)
    where
      by : (o : Option (ArpEntryOf N)) → option_and_then known_mac (option_map (as_arp r) o) ≡ option_and_then known_mac o
      by None = refl
      by (Some e) = refl

  pub is_down-renamed : (es : List (ArpEntryOf N)) → is_down at_m (r half) ip (map (as_arp r) es) ≡ is_down at_n half ip es
  is_down-renamed es = told-renamed (λ e. is_down_state e.state) (λ e. is_down_state e.state) (λ e. refl) false es

  pub held_for-renamed : (es : List (ArpEntryOf N)) → held_for at_m (r half) ip (map (as_arp r) es) ≡ held_for at_n half ip es
  held_for-renamed es = told-renamed (λ e. e.held) (λ e. e.held) (λ e. refl) [] es
