-- What each list of a stack's parts keeps by itself, as tests: its order, and its elements' states.
use Rattle.std.specs.Prelude.{ℕ, ◌^◌, Bool, true, ◌==◌, ◌&&◌, ◌||◌, not, nat_lt, nat_le, List, [], ◌∷◌, length, is_some, is_none}
use Rattle.std.specs.List.{list_any, list_all}
use Rattle.std.specs.Str.{bytes_eq}
use Rattle.std.specs.Ordering.{is_lt}
use Rattle.std.specs.declared.cmp.Ordering.{Ordering}
use Rattle.std.specs.Map.{keys_of}
use Rattle.vn_rules.specs.declared.address.AddrOf.{AddrOf}
use Rattle.vn_rules.specs.declared.arp.ArpEntryOf.{ArpEntryOf}
use Rattle.vn_rules.specs.declared.arp.ArpState.{ArpState}
use Rattle.vn_rules.specs.declared.arp.ArpState.TheVariants.{Incomplete, Learnt, Static, Down}
use Rattle.vn_rules.specs.declared.arp.TheConstants.{HELD_MAX, REQUESTS_MAX}
use Rattle.vn_rules.specs.declared.ping.PingOf.{PingOf}
use Rattle.vn_rules.specs.declared.ping.PingsOf.{PingsOf}
use Rattle.vn_rules.specs.declared.socket.SocketOf.{SocketOf}
use Rattle.vn_rules.specs.declared.socket.TheConstants.{RECEIVED_MAX}
use Rattle.vn_rules.specs.declared.timer.TimersOf.{TimersOf}
use Rattle.vn_rules.specs.declared.parts.PartsOf.{PartsOf}
use Rattle.vn_rules.specs.declared.parts.TheConstants.{LOOPBACK_MAX}
use Rattle.vn_rules.specs.Addresses.{has_ip}
use Rattle.vn_rules.specs.Networks.{is_network}
use Rattle.vn_rules.specs.Routes.{Routed, prefix_cmp}
use Rattle.vn_rules.specs.Ports.{are_in_conflict}
use Rattle.vn_rules.specs.Timers.{Timed, turn_cmp}
use Rattle.vn_rules.specs.Variables.{declarations, are_declared}

-- whether each comes before all that follow it
abbrev pub are_rising : {K : Type 0} → (K → K → Ordering) → List K → Bool
are_rising cmp [] = true
are_rising cmp (k ∷ ks) = list_all (λ q. is_lt (cmp k q)) ks && are_rising cmp ks

-- whether the test passes for no two of them
abbrev pub are_distinct : {X : Type 0} → (X → X → Bool) → List X → Bool
are_distinct same [] = true
are_distinct same (x ∷ xs) = not (list_any (same x) xs) && are_distinct same xs

-- whether a number has 16 bits
abbrev pub has_16_bits : ℕ → Bool
has_16_bits n = nat_lt n (2 ^ 16)

-- whether an entry has a hardware address, counts requests and holds datagrams as its state tells
abbrev pub is_right_in : {N : Type 0} → ArpState → ArpEntryOf N → Bool
is_right_in Incomplete e =
    is_none e.mac && nat_lt 0 e.requests && nat_le e.requests REQUESTS_MAX
    && nat_le (length e.held) HELD_MAX
is_right_in Learnt e = is_some e.mac && (length e.held == 0)
is_right_in Static e = is_some e.mac && (length e.held == 0)
is_right_in Down e = is_none e.mac && (length e.held == 0)

module _ {N : Type 0} where
  -- no address stands twice, and each is of a network of 1 to 32 bits
  unfoldable pub are_addresses : List (AddrOf N) → Bool
  are_addresses addresses =
      are_distinct (λ (a : AddrOf N) (b : AddrOf N). has_ip a.ip b) addresses
      && list_all (λ (a : AddrOf N). nat_lt 0 a.len && nat_le a.len 32) addresses

  -- routes stand by network and then length, each under the prefix of a network
  unfoldable pub are_routes : List (Routed N) → Bool
  are_routes routes = are_rising prefix_cmp (keys_of routes) && list_all is_network (keys_of routes)

  -- an ARP entry has what its state tells
  unfoldable pub are_arp_entries : List (ArpEntryOf N) → Bool
  are_arp_entries entries = list_all (λ (e : ArpEntryOf N). is_right_in e.state e) entries

  -- a socket with a peer has an address, one with an address has a port, and its queue is bounded
  abbrev pub is_socket : SocketOf N → Bool
  is_socket s =
      (is_none s.peer || is_some s.ip) && (is_none s.ip || is_some s.port)
      && nat_le (length s.queue) RECEIVED_MAX

  -- no two sockets have one name, nor one port at addresses that are not apart
  unfoldable pub are_sockets : List (SocketOf N) → Bool
  are_sockets sockets =
      are_distinct (λ (s : SocketOf N) (t : SocketOf N). bytes_eq s.name t.name) sockets
      && are_distinct are_in_conflict sockets
      && list_all is_socket sockets

  -- timers stand by their turns, and no two have one arm number
  unfoldable pub are_timers : TimersOf N → Bool
  are_timers t =
      are_rising turn_cmp (keys_of t.standing)
      && are_distinct (λ (e : Timed N) (f : Timed N). e.0.1 == f.0.1) t.standing

  -- identifiers of pings have 16 bits
  unfoldable pub are_pings : PingsOf N → Bool
  are_pings p = has_16_bits p.next && list_all (λ (ping : PingOf N). has_16_bits ping.id) p.awaited

  -- each list keeps its order and the states of its elements
  unfoldable pub keeps_orders : PartsOf N → Bool
  keeps_orders p =
      are_declared declarations p.variables && are_addresses p.addresses && are_routes p.routes
      && are_arp_entries p.arp && are_sockets p.sockets && are_timers p.timers && are_pings p.pings
      && nat_le (length p.loopback) LOOPBACK_MAX && has_16_bits p.ident
