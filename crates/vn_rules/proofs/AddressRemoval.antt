-- An address is removed: nothing new is named, interfaces stay, the parts stay sound, and no timer comes.
use Rattle.std.proofs.Common.{◌≡◌, Bool, true, false, not, ◌&&◌, ◌==◌, nat_lt, nat_le, List, Option, Some, None, refl, sym, ◌∙◌}
use Rattle.std.specs.Bool.{Decides}
use Rattle.std.specs.List.{list_any, list_all, filter}
use Rattle.std.proofs.lemmas.Bool.{and_parts, and_from, both_ways, not-true, not-false, false_from_ne_true, eqb-true, eq-eqb}
use Rattle.vn_types.specs.declared.address.Ip4.{Ip4}
use Rattle.vn_types.specs.declared.interface.IfOf.{IfOf}
use Rattle.vn_types.specs.declared.interface.IfOf.TheVariants.{Half}
use Rattle.vn_types.specs.Interfaces.{if_same}
use Rattle.vn_rules.specs.declared.address.AddrOf.{AddrOf}
use Rattle.vn_rules.specs.declared.arp.ArpEntryOf.{ArpEntryOf}
use Rattle.vn_rules.specs.declared.ping.PingOf.{PingOf}
use Rattle.vn_rules.specs.declared.socket.SocketOf.{SocketOf}
use Rattle.vn_rules.specs.declared.parts.PartsOf.{PartsOf}
use Rattle.vn_rules.specs.Addresses.{is_same, has_ip, local, address_of, without_address}
use Rattle.vn_rules.specs.Arp.{without_entries}
use Rattle.vn_rules.specs.Interfaces.{named_ifs, is_among}
use Rattle.vn_rules.specs.Orders.{are_distinct, are_addresses}
use Rattle.vn_rules.specs.Pings.{is_from, without_pings}
use Rattle.vn_rules.specs.Purge.{routes_without, is_uncovered, without_addr, without_found, dropped}
use Rattle.vn_rules.specs.Routes.{Routed, covers}
use Rattle.vn_rules.specs.Sockets.{is_ip, unbound_from}
use Rattle.vn_rules.specs.Soundness.{is_bound_locally, binds_locally, sends_locally, times_arp, covers_arp, founds_routes, is_sound_parts}
use Rattle.vn_rules.specs.Timers.{Timed}
use Rattle.vn_rules.proofs.Kept.{any_filter}
use Rattle.vn_rules.proofs.ListTests.{all_filter, all_weaker, all_both, distinct_filter, none_filter}
use Rattle.vn_rules.proofs.Named.{NamesPass, names_parts, names_from, own_names}
use Rattle.vn_rules.proofs.SoundEdits.{tabled-sound}
use Rattle.vn_rules.proofs.SoundFacts.{SoundFacts, facts_from_sound}
use Rattle.vn_rules.proofs.PingRemoval.{without_pings-names, without_pings-passed, without_pings-sound}
use Rattle.vn_rules.proofs.ArpRemoval.{without_entries-names, without_entries-passed, without_entries-sound}
use Rattle.vn_rules.proofs.SocketRemoval.{unbound_from-names, unbound_from-passed, unbound_from-sound}
use Rattle.vn_rules.proofs.RouteRemoval.{covers-without, are_routes-without, all-without, founded-without}

module _ {N : Type 0} (same : N → N → Bool) (a : AddrOf N) (p : PartsOf N) where
  abbrev left : List (AddrOf N)
  left = without_address same (Some a) p.addresses

  abbrev routes : List (Routed N)
  routes = routes_without same a left p.routes

  -- without the pings that it sent and the sockets that it had, and without those that its routes covered
  abbrev unused : PartsOf N
  unused = without_pings (is_from a.ip) (unbound_from a.ip p)

  abbrev bare : PartsOf N
  bare = without_entries (is_uncovered same a.on routes) unused

  pub without_addr-names : (t : IfOf N → Bool) → NamesPass t p → NamesPass t (without_addr same a p)
  unfolding without_addr
  without_addr-names t pass =
      let b = without_entries-names (is_uncovered same a.on routes) unused t
      (without_pings-names (is_from a.ip) (unbound_from a.ip p) t (unbound_from-names a.ip p t pass)) in
      record {
        addresses = all_filter (λ x. not (is_same same a x)) (λ (x : AddrOf N). t x.on) p.addresses pass.addresses;
        routes = all-without same a left p.routes _ pass.routes;
        arp = b.arp;
        pings = b.pings;
        grams = b.grams;
      }

  pub without_addr-interfaces : (without_addr same a p).interfaces ≡ p.interfaces
  unfolding without_addr without_entries without_pings unbound_from
  without_addr-interfaces = refl

  pub without_addr-addresses : (without_addr same a p).addresses ≡ filter (λ x. not (is_same same a x)) p.addresses
  unfolding without_addr
  without_addr-addresses = refl

  -- no timer comes
  pub without_addr-timers : (t : Timed N → Bool) → list_any t p.timers.standing ≡ false → list_any t (without_addr same a p).timers.standing ≡ false
  unfolding without_addr without_entries without_pings unbound_from
  without_addr-timers t none = none_filter _ t _ (none_filter _ t p.timers.standing none)

  -- ---- soundness

  module _ (decides : (g h : N) → Decides (same g h) (g ≡ h)) where
    -- another address is as local as before
    still_local : (ip : Ip4) → (ip.0 == a.ip.0) ≡ false → local ip left ≡ local ip p.addresses
    still_local ip other = any_filter (has_ip ip) (λ x. not (is_same same a x)) p.addresses gone
      where
        gone : (x : AddrOf N) → not (is_same same a x) ≡ false → has_ip ip x ≡ false
        gone x goes = false_from_ne_true _ (λ is.
            let one = and_parts (if_same same x.on a.on && (x.ip.0 == a.ip.0)) (x.len == a.len) (not-false _ goes) in
            let two = and_parts (if_same same x.on a.on) (x.ip.0 == a.ip.0) one.0 in
            both_ways (ip.0 == a.ip.0) other (eq-eqb ip.0 a.ip.0 (sym (eqb-true x.ip.0 ip.0 is) ∙ eqb-true x.ip.0 a.ip.0 two.1)))

    bound : list_all (λ (s : SocketOf N). is_bound_locally p s.ip) (unbound_from a.ip p).sockets ≡ true → list_all (λ (s : SocketOf N). is_bound_locally (without_addr same a p) s.ip) (unbound_from a.ip p).sockets ≡ true
    unfolding without_addr
    bound was = all_weaker (λ (s : SocketOf N). is_bound_locally p s.ip && not (is_ip a.ip s.ip)) (λ (s : SocketOf N). is_bound_locally (without_addr same a p) s.ip) (λ s. by s.ip) (unbound_from a.ip p).sockets
        (all_both (λ (s : SocketOf N). is_bound_locally p s.ip) (λ (s : SocketOf N). not (is_ip a.ip s.ip)) (unbound_from a.ip p).sockets was (unbound_from-passed a.ip p))
      where
        by : (ip : Option Ip4) → (is_bound_locally p ip && not (is_ip a.ip ip)) ≡ true → is_bound_locally (without_addr same a p) ip ≡ true
        by None is = refl
        by (Some ip) is = let parts = and_parts (local ip p.addresses) (not (ip.0 == a.ip.0)) is in still_local ip (not-true _ parts.1) ∙ parts.0

    sources : list_all (λ (g : PingOf N). local g.src p.addresses) unused.pings.awaited ≡ true → list_all (λ (g : PingOf N). local g.src left) unused.pings.awaited ≡ true
    sources was = all_weaker (λ (g : PingOf N). local g.src p.addresses && not (is_from a.ip g)) (λ (g : PingOf N). local g.src left) by unused.pings.awaited
        (all_both (λ (g : PingOf N). local g.src p.addresses) (λ (g : PingOf N). not (is_from a.ip g)) unused.pings.awaited was (without_pings-passed (is_from a.ip) (unbound_from a.ip p)))
      where
        by : (g : PingOf N) → (local g.src p.addresses && not (is_from a.ip g)) ≡ true → local g.src left ≡ true
        by g is = let parts = and_parts (local g.src p.addresses) (not (is_from a.ip g)) is in still_local g.src (not-true _ parts.1) ∙ parts.0

    covered : list_all (λ (e : ArpEntryOf N). covers same (Half e.half) e.ip p.routes) bare.arp ≡ true → list_all (λ (e : ArpEntryOf N). covers same (Half e.half) e.ip routes) bare.arp ≡ true
    covered was = all_weaker (λ (e : ArpEntryOf N). covers same (Half e.half) e.ip p.routes && not (is_uncovered same a.on routes e.half e.ip)) (λ (e : ArpEntryOf N). covers same (Half e.half) e.ip routes) by bare.arp
        (all_both (λ (e : ArpEntryOf N). covers same (Half e.half) e.ip p.routes) (λ (e : ArpEntryOf N). not (is_uncovered same a.on routes e.half e.ip)) bare.arp was (without_entries-passed (is_uncovered same a.on routes) unused))
      where
        at : (half : N) (ip : Ip4) (b c : Bool) → if_same same (Half half) a.on ≡ b → covers same (Half half) ip routes ≡ c → covers same (Half half) ip p.routes ≡ true → not (b && not c) ≡ true → c ≡ true
        at half ip true true there is old keeps = refl
        at half ip true false there is old keeps = keeps
        at half ip false c apart is old keeps = sym is ∙ covers-without same decides a left p.routes (Half half) ip apart ∙ old

        by : (e : ArpEntryOf N) → (covers same (Half e.half) e.ip p.routes && not (is_uncovered same a.on routes e.half e.ip)) ≡ true → covers same (Half e.half) e.ip routes ≡ true
        by e is =
            let parts = and_parts (covers same (Half e.half) e.ip p.routes) (not (is_uncovered same a.on routes e.half e.ip)) is in
            at e.half e.ip (if_same same (Half e.half) a.on) (covers same (Half e.half) e.ip routes) refl refl parts.0 parts.1

    addresses : are_addresses p.addresses ≡ true → are_addresses left ≡ true
    unfolding are_addresses
    addresses right =
        let parts = and_parts (are_distinct (λ (x : AddrOf N) (y : AddrOf N). has_ip x.ip y) p.addresses) (list_all (λ (x : AddrOf N). nat_lt 0 x.len && nat_le x.len 32) p.addresses) right in
        and_from _ _ (distinct_filter (λ x. not (is_same same a x)) _ p.addresses parts.0) (all_filter (λ x. not (is_same same a x)) _ p.addresses parts.1)

    bared-sound : SoundFacts same (times_arp same) bare → SoundFacts same (times_arp same) p → is_sound_parts same (without_addr same a p) ≡ true
    unfolding without_addr without_entries without_pings unbound_from binds_locally sends_locally covers_arp founds_routes
    bared-sound b s =
        tabled-sound same bare (without_addr same a p) b (without_addr-names (is_among same p.interfaces) (own_names same (times_arp same) p s))
        (bound b.bound) (sources b.sources) (covered b.arp_covered)
        (founded-without same decides a p (without_addr same a p) refl refl s.founded)
        b.variables (addresses s.addresses) (are_routes-without same a left p.routes s.routes) b.sockets

    pub without_addr-sound : is_sound_parts same p ≡ true → is_sound_parts same (without_addr same a p) ≡ true
    without_addr-sound sound =
        let used = without_pings-sound same (is_from a.ip) (unbound_from a.ip p) (unbound_from-sound a.ip p same sound) in
        let b = without_entries-sound same decides (is_uncovered same a.on routes) unused used in
        bared-sound (facts_from_sound same (times_arp same) bare b) (facts_from_sound same (times_arp same) p sound)

-- ---- as a command removes it

module _ {N : Type 0} (same : N → N → Bool) (on : IfOf N) (ip : Ip4) (p : PartsOf N) where
  -- what holds of the parts, and of them without an address, holds
  dropped-P : (P : PartsOf N → Type 0) → P p → ((a : AddrOf N) → P (without_addr same a p)) → P (dropped same on ip p)
  unfolding dropped
  dropped-P P stays goes = by (address_of same on ip p.addresses)
    where
      by : (o : Option (AddrOf N)) → P (without_found same o p)
      by None = stays
      by (Some a) = goes a

  pub dropped-names : (t : IfOf N → Bool) → list_all t (named_ifs p) ≡ true → list_all t (named_ifs (dropped same on ip p)) ≡ true
  dropped-names t all = dropped-P (λ q. list_all t (named_ifs q) ≡ true) all (λ a. names_from t (without_addr same a p) (without_addr-names same a p t (names_parts t p all)))

  pub dropped-interfaces : (dropped same on ip p).interfaces ≡ p.interfaces
  dropped-interfaces = dropped-P (λ q. q.interfaces ≡ p.interfaces) refl (λ a. without_addr-interfaces same a p)

  pub dropped-timers : (t : Timed N → Bool) → list_any t p.timers.standing ≡ false → list_any t (dropped same on ip p).timers.standing ≡ false
  dropped-timers t none = dropped-P (λ q. list_any t q.timers.standing ≡ false) none (λ a. without_addr-timers same a p t none)

  pub dropped-sound : (decides : (g h : N) → Decides (same g h) (g ≡ h)) → is_sound_parts same p ≡ true → is_sound_parts same (dropped same on ip p) ≡ true
  dropped-sound decides sound = dropped-P (λ q. is_sound_parts same q ≡ true) sound (λ a. without_addr-sound same a p decides sound)
