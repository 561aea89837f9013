-- Resolution under other names of halves: what is held, learnt, asked and removed goes through a renaming.
use Rattle.std.proofs.Common.{◌≡◌, ℕ, ◌+◌, Bool, true, false, cond, not, ◌&&◌, ◌||◌, ◌==◌, List, [], ◌∷◌, map, Option, Some, None, refl, ap, ap₂, ◌∙◌}
use Rattle.std.specs.Prelude.{is_none}
use Rattle.std.specs.Option.{option_map, option_map_or}
use Rattle.vn_types.specs.declared.address.Ip4.{Ip4}
use Rattle.vn_types.specs.declared.address.Mac.{Mac}
use Rattle.vn_types.specs.declared.errno.Errno.TheVariants as errno
use Rattle.vn_types.proofs.ListMaps.{any_map_same}
use Rattle.vn_rules.specs.declared.arp.ArpEntryOf.{ArpEntryOf}
use Rattle.vn_rules.specs.declared.arp.ArpState.TheVariants.{Learnt, Static}
use Rattle.vn_rules.specs.declared.timer.TimerOf.TheVariants.{Arp}
use Rattle.vn_rules.specs.declared.parts.PartsOf.{PartsOf}
use Rattle.vn_rules.specs.Arp.{is_static, holds_all, holding, resolved, is_place, entry_of, with_entry}
use Rattle.vn_rules.specs.Renamed.{as_arp, renamed}
use Rattle.vn_rules.specs.Routes.{gateway_half}
use Rattle.vn_rules.specs.Resolution.{request_time, down_time, learnt_time, TurnOf, Ask, GivesUp, Removed, turn_of, asked, given_up, timed_entry, untimed, asks, drops_oldest, after_hold, merges, adds, released, after_input, turned, after_turn, after_static, after_arp_set, is_no_station, static_refusals, after_arp_delete, arp_delete_refusals}
use Rattle.vn_rules.proofs.AddressLaws.{local-renamed}
use Rattle.vn_rules.proofs.ArpLaws.{without_entries-renamed, is_place-renamed, entry_of-renamed, with_entry-renamed, without_timer_at-renamed, told-renamed, held_for-renamed}
use Rattle.vn_rules.proofs.RouteLaws.{gateway_half-renamed}
use Rattle.vn_rules.proofs.TimerLaws.{after_arm-renamed}

module _ {N M : Type 0} (r : N → M) (at_n : N → N → Bool) (at_m : M → M → Bool) (faithful : (a b : N) → at_m (r a) (r b) ≡ at_n a b) (half : N) (ip : Ip4) where
  module _ (f : ArpEntryOf N → ArpEntryOf N) (g : ArpEntryOf M → ArpEntryOf M) (same : (e : ArpEntryOf N) → g (as_arp r e) ≡ as_arp r (f e)) where
    timed_entry-renamed : (deadline : ℕ) (p : PartsOf N) → timed_entry at_m deadline (r half) ip g (renamed r p) ≡ renamed r (timed_entry at_n deadline half ip f p)
    unfolding renamed
    timed_entry-renamed deadline p i = record (renamed r p) {
      arp = with_entry-renamed r at_n at_m faithful half ip f g same p.arp i;
      timers = after_arm-renamed r deadline (Arp half ip) p.timers i;
    }

    entry-renamed : (p : PartsOf N) → record (renamed r p) { arp = with_entry at_m (r half) ip g (renamed r p).arp } ≡ renamed r (record p { arp = with_entry at_n half ip f p.arp })
    unfolding renamed
    entry-renamed p i = record (renamed r p) { arp = with_entry-renamed r at_n at_m faithful half ip f g same p.arp i }

  untimed-renamed : (p : PartsOf N) → untimed at_m (r half) ip (renamed r p) ≡ renamed r (untimed at_n half ip p)
  unfolding renamed
  untimed-renamed p i = record (renamed r p) { timers = without_timer_at-renamed r at_n at_m faithful half ip p.timers i }

  -- either way
  branch : (b : Bool) {x y : PartsOf M} (u v : PartsOf N) → x ≡ renamed r u → y ≡ renamed r v → cond b x y ≡ renamed r (cond b u v)
  branch true u v left right = left
  branch false u v left right = right

  -- ---- a datagram is held

  is_none-renamed : (o : Option (ArpEntryOf N)) → is_none (option_map (as_arp r) o) ≡ is_none o
  is_none-renamed None = refl
  is_none-renamed (Some e) = refl

  pub asks-renamed : (es : List (ArpEntryOf N)) → asks at_m (r half) ip (map (as_arp r) es) ≡ asks at_n half ip es
  asks-renamed es = ap is_none (entry_of-renamed r at_n at_m faithful half ip es) ∙ is_none-renamed (entry_of at_n half ip es)

  pub drops_oldest-renamed : (es : List (ArpEntryOf N)) → drops_oldest at_m (r half) ip (map (as_arp r) es) ≡ drops_oldest at_n half ip es
  drops_oldest-renamed es = told-renamed r at_n at_m faithful half ip holds_all holds_all (λ e. refl) false es

  asked-so : (p : PartsOf N) → asks at_m (r half) ip (renamed r p).arp ≡ asks at_n half ip p.arp
  unfolding renamed
  asked-so p = asks-renamed p.arp

  pub after_hold-renamed : (now : ℕ) (octets : List ℕ) (p : PartsOf N) → after_hold at_m now (r half) ip octets (renamed r p) ≡ renamed r (after_hold at_n now half ip octets p)
  unfolding after_hold
  after_hold-renamed now octets p =
      ap (λ b. cond b (timed_entry at_m (now + request_time) (r half) ip (holding octets) (renamed r p)) (record (renamed r p) { arp = with_entry at_m (r half) ip (holding octets) (renamed r p).arp })) (asked-so p)
      ∙ branch (asks at_n half ip p.arp) _ _ (timed_entry-renamed (holding octets) (holding octets) (λ e. refl) (now + request_time) p) (entry-renamed (holding octets) (holding octets) (λ e. refl) p)

  -- ---- a packet tells the sender's hardware address

  pub merges-renamed : (es : List (ArpEntryOf N)) → merges at_m (r half) ip (map (as_arp r) es) ≡ merges at_n half ip es
  merges-renamed es = told-renamed r at_n at_m faithful half ip (λ e. not (is_static e.state)) (λ e. not (is_static e.state)) (λ e. refl) false es

  pub adds-renamed : (is_target : Bool) (es : List (ArpEntryOf N)) → adds at_m (r half) ip is_target (map (as_arp r) es) ≡ adds at_n half ip is_target es
  adds-renamed is_target es = ap (λ none. is_target && none) (asks-renamed es)

  pub released-renamed : (es : List (ArpEntryOf N)) → released at_m (r half) ip (map (as_arp r) es) ≡ released at_n half ip es
  released-renamed es = ap₂ (λ b held. cond b held []) (merges-renamed es) (held_for-renamed r at_n at_m faithful half ip es)

  told : (is_target : Bool) (p : PartsOf N) → (merges at_m (r half) ip (renamed r p).arp || adds at_m (r half) ip is_target (renamed r p).arp) ≡ (merges at_n half ip p.arp || adds at_n half ip is_target p.arp)
  unfolding renamed
  told is_target p = ap₂ ◌||◌ (merges-renamed p.arp) (adds-renamed is_target p.arp)

  pub after_input-renamed : (now : ℕ) (mac : Mac) (is_target : Bool) (p : PartsOf N) → after_input at_m now (r half) ip mac is_target (renamed r p) ≡ renamed r (after_input at_n now half ip mac is_target p)
  unfolding after_input
  after_input-renamed now mac is_target p =
      ap (λ b. cond b (timed_entry at_m (now + learnt_time) (r half) ip (resolved Learnt mac) (untimed at_m (r half) ip (renamed r p))) (renamed r p)) (told is_target p)
      ∙ branch (merges at_n half ip p.arp || adds at_n half ip is_target p.arp) _ _
      (ap (timed_entry at_m (now + learnt_time) (r half) ip (resolved Learnt mac)) (untimed-renamed p) ∙ timed_entry-renamed (resolved Learnt mac) (resolved Learnt mac) (λ e. refl) (now + learnt_time) (untimed at_n half ip p))
      refl

  -- ---- an entry's timer

  pub turned-renamed : (now : ℕ) (p : PartsOf N) (t : TurnOf) → turned at_m now (r half) ip (renamed r p) t ≡ renamed r (turned at_n now half ip p t)
  turned-renamed now p Ask = timed_entry-renamed asked asked (λ e. refl) (now + request_time) p
  turned-renamed now p (GivesUp held) = timed_entry-renamed given_up given_up (λ e. refl) (now + down_time) p
  turned-renamed now p Removed = without_entries-renamed r (is_place at_n half ip) (is_place at_m (r half) ip) (is_place-renamed r at_n at_m faithful half ip) p

  found : (p : PartsOf N) → entry_of at_m (r half) ip (renamed r p).arp ≡ option_map (as_arp r) (entry_of at_n half ip p.arp)
  unfolding renamed
  found p = entry_of-renamed r at_n at_m faithful half ip p.arp

  pub after_turn-renamed : (now : ℕ) (p : PartsOf N) → after_turn at_m now (r half) ip (renamed r p) ≡ renamed r (after_turn at_n now half ip p)
  unfolding after_turn
  after_turn-renamed now p = ap (λ o. option_map_or (λ (e : ArpEntryOf M). turned at_m now (r half) ip (renamed r p) (turn_of e)) o (renamed r p)) (found p) ∙ by (entry_of at_n half ip p.arp)
    where
      by : (o : Option (ArpEntryOf N)) → option_map_or (λ (e : ArpEntryOf M). turned at_m now (r half) ip (renamed r p) (turn_of e)) (option_map (as_arp r) o) (renamed r p)
          ≡ renamed r (option_map_or (λ (e : ArpEntryOf N). turned at_n now half ip p (turn_of e)) o p)
      by None = refl
      by (Some e) = turned-renamed now p (turn_of e)

  -- ---- by hand

  pub after_static-renamed : (mac : Mac) (p : PartsOf N) → after_static at_m (r half) ip mac (renamed r p) ≡ renamed r (after_static at_n half ip mac p)
  unfolding after_static renamed
  after_static-renamed mac p i = record (renamed r p) {
    arp = with_entry-renamed r at_n at_m faithful half ip (resolved Static mac) (resolved Static mac) (λ e. refl) p.arp i;
    timers = without_timer_at-renamed r at_n at_m faithful half ip p.timers i;
  }

module _ {N M : Type 0} (r : N → M) (at_n : N → N → Bool) (at_m : M → M → Bool) (faithful : (a b : N) → at_m (r a) (r b) ≡ at_n a b) (ip : Ip4) (mac : Mac) where
  beyond : (p : PartsOf N) → gateway_half ip (renamed r p).routes ≡ option_map r (gateway_half ip p.routes)
  unfolding renamed
  beyond p = gateway_half-renamed r ip p.routes

  pub after_arp_set-renamed : (p : PartsOf N) → after_arp_set at_m ip mac (renamed r p) ≡ renamed r (after_arp_set at_n ip mac p)
  unfolding after_arp_set
  after_arp_set-renamed p = ap (λ o. option_map_or (λ half. after_static at_m half ip mac (renamed r p)) o (renamed r p)) (beyond p) ∙ by (gateway_half ip p.routes)
    where
      by : (o : Option N) → option_map_or (λ half. after_static at_m half ip mac (renamed r p)) (option_map r o) (renamed r p) ≡ renamed r (option_map_or (λ half. after_static at_n half ip mac p) o p)
      by None = refl
      by (Some half) = after_static-renamed r at_n at_m faithful half ip mac p

module _ {N M : Type 0} (r : N → M) where
  pub static_refusals-renamed : (ip : Ip4) (mac : Mac) (p : PartsOf N) → static_refusals ip mac (renamed r p) ≡ static_refusals ip mac p
  unfolding static_refusals renamed
  static_refusals-renamed ip mac p =
      ap₂ (λ own missing. (is_no_station mac, errno.Inval) ∷ (own, errno.Exist) ∷ (missing, errno.NetUnreach) ∷ []) (local-renamed r ip p.addresses)
      (ap is_none (gateway_half-renamed r ip p.routes) ∙ by (gateway_half ip p.routes))
    where
      by : (o : Option N) → is_none (option_map r o) ≡ is_none o
      by None = refl
      by (Some half) = refl

  pub after_arp_delete-renamed : (ip : Ip4) (p : PartsOf N) → after_arp_delete ip (renamed r p) ≡ renamed r (after_arp_delete ip p)
  unfolding after_arp_delete
  after_arp_delete-renamed ip p = without_entries-renamed r (λ half own. own.0 == ip.0) (λ half own. own.0 == ip.0) (λ half own. refl) p

  pub arp_delete_refusals-renamed : (ip : Ip4) (es : List (ArpEntryOf N)) → arp_delete_refusals ip (map (as_arp r) es) ≡ arp_delete_refusals ip es
  arp_delete_refusals-renamed ip es = ap (λ found. (not found, errno.NoEnt) ∷ []) (any_map_same (as_arp r) (λ (e : ArpEntryOf N). e.ip.0 == ip.0) (λ (e : ArpEntryOf M). e.ip.0 == ip.0) (λ e. refl) es)
