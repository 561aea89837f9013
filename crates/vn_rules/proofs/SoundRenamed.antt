-- Soundness under other names of halves: each of its tests goes through a renaming that keeps the test on names.
use Rattle.std.proofs.Common.{◌≡◌, Bool, cond, ◌&&◌, ◌||◌, is_some, is_none, ◌==◌, nat_le, List, map, Option, Some, None, refl, ap, ap₂, ◌∙◌}
use Rattle.std.specs.List.{list_all}
use Rattle.std.proofs.lemmas.List.{length-map}
use Rattle.std.proofs.lemmas.Map.Made.{keys_of-map_values}
use Rattle.vn_types.specs.declared.address.Ip4.{Ip4}
use Rattle.vn_types.specs.declared.interface.IfOf.{IfOf}
use Rattle.vn_types.specs.declared.interface.IfOf.TheVariants.{Half}
use Rattle.vn_types.specs.Interfaces.{as_if}
use Rattle.vn_types.proofs.InterfaceNames.{if_same-as_if}
use Rattle.vn_types.proofs.ListMaps.{any_map_same}
use Rattle.vn_rules.specs.declared.address.AddrOf.{AddrOf}
use Rattle.vn_rules.specs.declared.arp.ArpEntryOf.{ArpEntryOf}
use Rattle.vn_rules.specs.declared.arp.ArpState.{ArpState}
use Rattle.vn_rules.specs.declared.arp.ArpState.TheVariants.{Incomplete, Learnt, Static, Down}
use Rattle.vn_rules.specs.declared.ping.PingOf.{PingOf}
use Rattle.vn_rules.specs.declared.route.TargetOf.{TargetOf}
use Rattle.vn_rules.specs.declared.route.TargetOf.TheVariants.{Link, Gateway}
use Rattle.vn_rules.specs.declared.socket.SocketOf.{SocketOf}
use Rattle.vn_rules.specs.declared.socket.TheConstants.{RECEIVED_MAX}
use Rattle.vn_rules.specs.declared.timer.TimerOf.TheVariants.{Arp, Ping}
use Rattle.vn_rules.specs.declared.parts.PartsOf.{PartsOf}
use Rattle.vn_rules.specs.Interfaces.{named_ifs, is_among}
use Rattle.vn_rules.specs.Networks.{lies_in, is_network}
use Rattle.vn_rules.specs.Orders.{are_rising, has_16_bits, is_right_in, are_addresses, are_routes, are_arp_entries, is_socket, are_sockets, are_timers, are_pings, keeps_orders}
use Rattle.vn_rules.specs.Renamed.{as_addr, as_target, as_routed, as_arp, as_ping, as_pings, as_gram, as_socket, as_timer, as_timed, as_timers, renamed}
use Rattle.vn_rules.specs.Routes.{Routed, prefix_cmp, is_link_on, covers}
use Rattle.vn_rules.specs.Arp.{is_timer_at}
use Rattle.vn_rules.specs.Pings.{is_timer_for}
use Rattle.vn_rules.specs.Addresses.{local, is_address_of}
use Rattle.vn_rules.specs.Soundness.{is_bound_locally, binds_locally, sends_locally, times_pings, gave_arms, has_distinct_arms, names_own, has_owner, owns_timers, timers_wanted, times_arp, times_arp_but, has_distinct_entries, covers_arp, is_founded, founds_routes, keeps_timers, keeps_tables, is_sound_parts, is_sound_but}
use Rattle.vn_rules.specs.Ports.{are_in_conflict}
use Rattle.vn_rules.specs.Timers.{Timed, turn_cmp}
use Rattle.vn_rules.proofs.AddressLaws.{local-renamed}
use Rattle.vn_rules.proofs.ListTests.{all_map_same, count_map_same, distinct_map_same}
use Rattle.vn_rules.proofs.Renaming.{named_ifs-renamed, is_among-renamed}

-- ---- tests that name no half

module _ {N M : Type 0} (r : N → M) where
  binds_locally-renamed : (p : PartsOf N) → binds_locally (renamed r p) ≡ binds_locally p
  unfolding binds_locally renamed
  binds_locally-renamed p =
      all_map_same (as_socket r) (λ (s : SocketOf N). is_bound_locally p s.ip) (λ (s : SocketOf M). is_bound_locally (renamed r p) s.ip) (λ s. by s.ip) p.sockets
    where
      by : (ip : Option Ip4) → is_bound_locally (renamed r p) ip ≡ is_bound_locally p ip
      by None = refl
      by (Some ip) = local-renamed r ip p.addresses

  sends_locally-renamed : (p : PartsOf N) → sends_locally (renamed r p) ≡ sends_locally p
  unfolding sends_locally renamed
  sends_locally-renamed p =
      all_map_same (as_ping r) (λ (g : PingOf N). local g.src p.addresses) (λ (g : PingOf M). local g.src (renamed r p).addresses) (λ g. local-renamed r g.src p.addresses) p.pings.awaited

  is_timer_for-renamed : (ping : PingOf N) (e : Timed N) → is_timer_for (as_ping r ping) (as_timed r e) ≡ is_timer_for ping e
  is_timer_for-renamed ping (at, Arp half ip) = refl
  is_timer_for-renamed ping (at, Ping id arm) = refl

  times_pings-renamed : (p : PartsOf N) → times_pings (renamed r p) ≡ times_pings p
  unfolding times_pings renamed
  times_pings-renamed p =
      all_map_same (as_ping r) _ _
      (λ ping. ap (λ n. n == 1) (count_map_same (as_timed r) (is_timer_for ping) (is_timer_for (as_ping r ping)) (is_timer_for-renamed ping) p.timers.standing))
      p.pings.awaited

  gave_arms-renamed : (p : PartsOf N) → gave_arms (renamed r p) ≡ gave_arms p
  unfolding gave_arms renamed
  gave_arms-renamed p = all_map_same (as_timed r) _ _ (λ e. refl) p.timers.standing

  has_distinct_arms-renamed : (p : PartsOf N) → has_distinct_arms (renamed r p).pings.awaited ≡ has_distinct_arms p.pings.awaited
  unfolding has_distinct_arms renamed
  has_distinct_arms-renamed p = distinct_map_same (as_ping r) _ _ (λ a b. refl) p.pings.awaited

  are_addresses-renamed : (xs : List (AddrOf N)) → are_addresses (map (as_addr r) xs) ≡ are_addresses xs
  unfolding are_addresses
  are_addresses-renamed xs =
      ap₂ ◌&&◌ (distinct_map_same (as_addr r) _ _ (λ a b. refl) xs) (all_map_same (as_addr r) _ _ (λ a. refl) xs)

  are_routes-renamed : (es : List (Routed N)) → are_routes (map (as_routed r) es) ≡ are_routes es
  unfolding are_routes
  are_routes-renamed es =
      ap (λ prefixes. are_rising prefix_cmp prefixes && list_all is_network prefixes) (keys_of-map_values (as_target r) es)

  are_arp_entries-renamed : (es : List (ArpEntryOf N)) → are_arp_entries (map (as_arp r) es) ≡ are_arp_entries es
  unfolding are_arp_entries
  are_arp_entries-renamed es = all_map_same (as_arp r) _ _ (λ e. by e e.state) es
    where
      by : (e : ArpEntryOf N) (state : ArpState) → is_right_in state (as_arp r e) ≡ is_right_in state e
      by e Incomplete = refl
      by e Learnt = refl
      by e Static = refl
      by e Down = refl

  are_sockets-renamed : (xs : List (SocketOf N)) → are_sockets (map (as_socket r) xs) ≡ are_sockets xs
  unfolding are_sockets
  are_sockets-renamed xs =
      ap₂ ◌&&◌ (ap₂ ◌&&◌ (distinct_map_same (as_socket r) _ _ (λ s t. refl) xs) (distinct_map_same (as_socket r) are_in_conflict are_in_conflict apart xs))
      (all_map_same (as_socket r) is_socket is_socket by xs)
    where
      apart : (s t : SocketOf N) → are_in_conflict (as_socket r s) (as_socket r t) ≡ are_in_conflict s t
      apart s t = refl

      by : (s : SocketOf N) → is_socket (as_socket r s) ≡ is_socket s
      by s = ap (λ n. (is_none s.peer || is_some s.ip) && (is_none s.ip || is_some s.port) && nat_le n RECEIVED_MAX) (length-map s.queue (as_gram r))

  are_timers-renamed : (p : PartsOf N) → are_timers (as_timers r p.timers) ≡ are_timers p.timers
  unfolding are_timers
  are_timers-renamed p =
      ap₂ ◌&&◌ (ap (are_rising turn_cmp) (keys_of-map_values (as_timer r) p.timers.standing))
      (distinct_map_same (as_timed r) _ _ (λ e f. refl) p.timers.standing)

  are_pings-renamed : (p : PartsOf N) → are_pings (as_pings r p.pings) ≡ are_pings p.pings
  unfolding are_pings
  are_pings-renamed p = ap (λ b. has_16_bits p.pings.next && b) (all_map_same (as_ping r) _ _ (λ ping. refl) p.pings.awaited)

  keeps_orders-renamed : (p : PartsOf N) → keeps_orders (renamed r p) ≡ keeps_orders p
  unfolding keeps_orders renamed
  keeps_orders-renamed p = rw (are_addresses-renamed p.addresses, are_routes-renamed p.routes, are_arp_entries-renamed p.arp, are_sockets-renamed p.sockets, are_timers-renamed p, are_pings-renamed p) refl

-- ---- tests on names

module _ {N M : Type 0} (r : N → M) (at_n : N → N → Bool) (at_m : M → M → Bool) (faithful : (a b : N) → at_m (r a) (r b) ≡ at_n a b) where
  names_own-renamed : (p : PartsOf N) → names_own at_m (renamed r p) ≡ names_own at_n p
  unfolding names_own renamed
  names_own-renamed p =
      ap (list_all (is_among at_m (map (as_if r) p.interfaces))) (named_ifs-renamed r p)
      ∙ all_map_same (as_if r) (is_among at_n p.interfaces) (is_among at_m (map (as_if r) p.interfaces)) (is_among-renamed r at_n at_m faithful p.interfaces) (named_ifs p)

  is_timer_at-renamed : (a : ArpEntryOf N) (e : Timed N) → is_timer_at at_m (as_arp r a) (as_timed r e) ≡ is_timer_at at_n a e
  is_timer_at-renamed a (at, Arp half ip) = ap (λ b. b && (ip.0 == a.ip.0)) (faithful half a.half)
  is_timer_at-renamed a (at, Ping id arm) = refl

  owns_timers-renamed : (p : PartsOf N) → owns_timers at_m (renamed r p) ≡ owns_timers at_n p
  unfolding owns_timers renamed
  owns_timers-renamed p = all_map_same (as_timed r) (has_owner at_n p) (has_owner at_m (renamed r p)) by p.timers.standing
    where
      by : (e : Timed N) → has_owner at_m (renamed r p) (as_timed r e) ≡ has_owner at_n p e
      by (at, Arp half ip) = any_map_same (as_arp r) _ _ (λ a. is_timer_at-renamed a (at, Arp half ip)) p.arp
      by (at, Ping id arm) = any_map_same (as_ping r) _ _ (λ ping. refl) p.pings.awaited

  times_arp-renamed : (p : PartsOf N) → times_arp at_m (renamed r p) ≡ times_arp at_n p
  unfolding times_arp renamed
  times_arp-renamed p =
      all_map_same (as_arp r) _ _
      (λ a. ap (λ n. n == timers_wanted at_n a.state) (count_map_same (as_timed r) (is_timer_at at_n a) (is_timer_at at_m (as_arp r a)) (is_timer_at-renamed a) p.timers.standing))
      p.arp

  times_arp_but-renamed : (half : N) (ip : Ip4) (p : PartsOf N) → times_arp_but at_m (r half) ip (renamed r p) ≡ times_arp_but at_n half ip p
  unfolding times_arp_but renamed
  times_arp_but-renamed half ip p =
      all_map_same (as_arp r) _ _
      (λ a. ap₂ (λ n here. n == cond here 0 (timers_wanted at_n a.state)) (count_map_same (as_timed r) (is_timer_at at_n a) (is_timer_at at_m (as_arp r a)) (is_timer_at-renamed a) p.timers.standing)
      (ap (λ b. b && (a.ip.0 == ip.0)) (faithful a.half half)))
      p.arp

  has_distinct_entries-renamed : (p : PartsOf N) → has_distinct_entries at_m (renamed r p).arp ≡ has_distinct_entries at_n p.arp
  unfolding has_distinct_entries renamed
  has_distinct_entries-renamed p = distinct_map_same (as_arp r) _ _ (λ a b. ap (λ same. same && (a.ip.0 == b.ip.0)) (faithful a.half b.half)) p.arp

  pub covers-renamed : (on : IfOf N) (ip : Ip4) (es : List (Routed N)) → covers at_m (as_if r on) ip (map (as_routed r) es) ≡ covers at_n on ip es
  unfolding covers
  covers-renamed on ip es =
      any_map_same (as_routed r) (λ (e : Routed N). is_link_on at_n on e.1 && lies_in ip e.0) (λ (e : Routed M). is_link_on at_m (as_if r on) e.1 && lies_in ip e.0)
      (λ e. ap (λ b. b && lies_in ip e.0) (by e.1)) es
    where
      by : (t : TargetOf N) → is_link_on at_m (as_if r on) (as_target r t) ≡ is_link_on at_n on t
      by (Link own) = if_same-as_if r at_n at_m faithful own on
      by (Gateway via half) = refl

  covers_arp-renamed : (p : PartsOf N) → covers_arp at_m (renamed r p) ≡ covers_arp at_n p
  unfolding covers_arp renamed
  covers_arp-renamed p = all_map_same (as_arp r) _ _ (λ a. covers-renamed (Half a.half) a.ip p.routes) p.arp

  founds_routes-renamed : (p : PartsOf N) → founds_routes at_m (renamed r p) ≡ founds_routes at_n p
  unfolding founds_routes renamed
  founds_routes-renamed p = all_map_same (as_routed r) (is_founded at_n p) (is_founded at_m (renamed r p)) by p.routes
    where
      by : (e : Routed N) → is_founded at_m (renamed r p) (as_routed r e) ≡ is_founded at_n p e
      by (to, Link on) =
          any_map_same (as_addr r) (is_address_of at_n on to) (is_address_of at_m (as_if r on) to)
          (λ a. ap (λ same. same && (a.len == to.len) && lies_in a.ip to) (if_same-as_if r at_n at_m faithful a.on on)) p.addresses
      by (to, Gateway via half) = covers-renamed (Half half) via p.routes

  pub keeps_timers-renamed : (p : PartsOf N) → keeps_timers at_m (renamed r p) ≡ keeps_timers at_n p
  keeps_timers-renamed p = ap₂ ◌&&◌ (owns_timers-renamed p) (times_pings-renamed r p)

  pub keeps_tables-renamed : (p : PartsOf N) → keeps_tables at_m (renamed r p) ≡ keeps_tables at_n p
  keeps_tables-renamed p =
      rw (has_distinct_entries-renamed p, times_arp-renamed p, covers_arp-renamed p, founds_routes-renamed p, gave_arms-renamed r p, has_distinct_arms-renamed r p) refl

  pub is_sound_parts-renamed : (p : PartsOf N) → is_sound_parts at_m (renamed r p) ≡ is_sound_parts at_n p
  is_sound_parts-renamed p =
      rw (names_own-renamed p, binds_locally-renamed r p, sends_locally-renamed r p, keeps_timers-renamed p, keeps_tables-renamed p, keeps_orders-renamed r p) refl

  pub is_sound_but-renamed : (half : N) (ip : Ip4) (p : PartsOf N) → is_sound_but at_m (r half) ip (renamed r p) ≡ is_sound_but at_n half ip p
  is_sound_but-renamed half ip p =
      rw (names_own-renamed p, binds_locally-renamed r p, sends_locally-renamed r p, keeps_timers-renamed p, has_distinct_entries-renamed p, times_arp_but-renamed half ip p, covers_arp-renamed p, founds_routes-renamed p, gave_arms-renamed r p, has_distinct_arms-renamed r p, keeps_orders-renamed r p)
      refl
