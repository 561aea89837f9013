-- What the parts of a stack keep among themselves, as tests.
use Rattle.std.specs.Prelude.{ℕ, Bool, true, ◌==◌, ◌&&◌, nat_lt, List, Option, Some, None, count_by, if◌then◌else◌}
use Rattle.std.specs.List.{list_any, list_all}
use Rattle.vn_types.specs.declared.address.Ip4.{Ip4}
use Rattle.vn_types.specs.declared.interface.IfOf.TheVariants.{Half}
use Rattle.vn_rules.specs.declared.route.TargetOf.TheVariants.{Link, Gateway}
use Rattle.vn_rules.specs.declared.arp.ArpEntryOf.{ArpEntryOf}
use Rattle.vn_rules.specs.declared.arp.ArpState.{ArpState}
use Rattle.vn_rules.specs.declared.arp.ArpState.TheVariants.{Static, Incomplete, Learnt, Down}
use Rattle.vn_rules.specs.declared.ping.PingOf.{PingOf}
use Rattle.vn_rules.specs.declared.socket.SocketOf.{SocketOf}
use Rattle.vn_rules.specs.declared.timer.TimerOf.TheVariants.{Arp, Ping}
use Rattle.vn_rules.specs.declared.parts.PartsOf.{PartsOf}
use Rattle.vn_rules.specs.Interfaces.{named_ifs, is_among}
use Rattle.vn_rules.specs.Addresses.{local, is_address_of}
use Rattle.vn_rules.specs.Arp.{is_entry_at, is_timer_at}
use Rattle.vn_rules.specs.Pings.{is_timer_for}
use Rattle.vn_rules.specs.Orders.{are_distinct, keeps_orders}
use Rattle.vn_rules.specs.Routes.{Routed, covers}
use Rattle.vn_rules.specs.Timers.{Timed}

module _ {N : Type 0} where
  -- whether a local address, where it is set, is one of the stack's
  abbrev pub is_bound_locally : PartsOf N → Option Ip4 → Bool
  is_bound_locally p None = true
  is_bound_locally p (Some ip) = local ip p.addresses

  -- each socket's local address, where it is set, is one of the stack's
  unfoldable pub binds_locally : PartsOf N → Bool
  binds_locally p = list_all (λ (s : SocketOf N). is_bound_locally p s.ip) p.sockets

  -- each awaited ping was sent from an address of the stack
  unfoldable pub sends_locally : PartsOf N → Bool
  sends_locally p =
      list_all (λ (ping : PingOf N). local ping.src p.addresses) p.pings.awaited

  -- each awaited ping has its timer, and one alone
  unfoldable pub times_pings : PartsOf N → Bool
  times_pings p =
      list_all (λ ping. count_by (is_timer_for ping) p.timers.standing == 1) p.pings.awaited

  -- each arm number was given before the next one
  unfoldable pub gave_arms : PartsOf N → Bool
  gave_arms p = list_all (λ e. nat_lt e.0.1 p.timers.armed) p.timers.standing

  -- no two awaited pings have one arm number
  unfoldable pub has_distinct_arms : List (PingOf N) → Bool
  has_distinct_arms pings = are_distinct (λ (a : PingOf N) (b : PingOf N). a.arm == b.arm) pings

module _ {N : Type 0} (same : N → N → Bool) where
  -- each interface that the parts name is one of the stack's
  unfoldable pub names_own : PartsOf N → Bool
  names_own p = list_all (is_among same p.interfaces) (named_ifs p)

  -- whether the ARP entry or the awaited ping of a timer is there
  abbrev pub has_owner : PartsOf N → Timed N → Bool
  has_owner p (at, Arp half ip) = list_any (λ e. is_timer_at same e (at, Arp half ip)) p.arp
  has_owner p (at, Ping id arm) =
      list_any (λ ping. is_timer_for ping (at, Ping id arm)) p.pings.awaited

  -- each timer is that of an ARP entry or of an awaited ping
  unfoldable pub owns_timers : PartsOf N → Bool
  owns_timers p = list_all (has_owner p) p.timers.standing

  -- how many timers an ARP entry is to have
  abbrev pub timers_wanted : ArpState → ℕ
  timers_wanted Static = 0
  timers_wanted Incomplete = 1
  timers_wanted Learnt = 1
  timers_wanted Down = 1

  -- each ARP entry has exactly one timer, a static one none
  unfoldable pub times_arp : PartsOf N → Bool
  times_arp p =
      list_all
      (λ (e : ArpEntryOf N). count_by (is_timer_at same e) p.timers.standing == timers_wanted e.state)
      p.arp

  -- the same, but that the entry of the address on the half has none
  unfoldable pub times_arp_but : N → Ip4 → PartsOf N → Bool
  times_arp_but half ip p =
      list_all
      (λ (e : ArpEntryOf N).
      count_by (is_timer_at same e) p.timers.standing
      == (if is_entry_at same half ip e then 0 else timers_wanted e.state))
      p.arp

  -- whether two ARP entries are of one address on one half
  abbrev pub is_same_entry : ArpEntryOf N → ArpEntryOf N → Bool
  is_same_entry a b = same a.half b.half && (a.ip.0 == b.ip.0)

  -- no half has two ARP entries for one address
  unfoldable pub has_distinct_entries : List (ArpEntryOf N) → Bool
  has_distinct_entries entries = are_distinct is_same_entry entries

  -- each ARP entry's address is covered by an interface route of its half
  unfoldable pub covers_arp : PartsOf N → Bool
  covers_arp p = list_all (λ (e : ArpEntryOf N). covers same (Half e.half) e.ip p.routes) p.arp

  -- an interface route has an address of its interface with that network, and a gateway is covered by
  -- an interface route of its half
  abbrev pub is_founded : PartsOf N → Routed N → Bool
  is_founded p (to, Link on) = list_any (is_address_of same on to) p.addresses
  is_founded p (to, Gateway via half) = covers same (Half half) via p.routes

  -- each route has what it stands on
  unfoldable pub founds_routes : PartsOf N → Bool
  founds_routes p = list_all (is_founded p) p.routes

  -- ---- all of them

  -- timers and awaited pings belong together
  abbrev pub keeps_timers : PartsOf N → Bool
  keeps_timers p = owns_timers p && times_pings p

  -- ARP entries are one for each address and have their timers and routes, routes their addresses,
  -- and timers and awaited pings arm numbers of their own
  abbrev pub keeps_tables_by : (PartsOf N → Bool) → PartsOf N → Bool
  keeps_tables_by times p =
      has_distinct_entries p.arp && times p && covers_arp p && founds_routes p && gave_arms p
      && has_distinct_arms p.pings.awaited

  -- where each ARP entry has its own timer
  abbrev pub keeps_tables : PartsOf N → Bool
  keeps_tables p = keeps_tables_by times_arp p

  -- all that the parts of a stack keep among themselves, and each for itself, by the test on the timers of
  -- ARP entries
  abbrev pub is_sound_by : (PartsOf N → Bool) → PartsOf N → Bool
  is_sound_by times p =
      names_own p && binds_locally p && sends_locally p && keeps_timers p && keeps_tables_by times p
      && keeps_orders p

  -- where each has its own
  abbrev pub is_sound_parts : PartsOf N → Bool
  is_sound_parts p = is_sound_by times_arp p

  -- where that entry's is taken out
  abbrev pub is_sound_but : N → Ip4 → PartsOf N → Bool
  is_sound_but half ip p = is_sound_by (times_arp_but half ip) p
