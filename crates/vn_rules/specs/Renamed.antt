-- The same parts under other names of halves.
use Rattle.std.specs.Prelude.{map}
use Rattle.vn_types.specs.Interfaces.{as_if}
use Rattle.vn_rules.specs.declared.address.AddrOf.{AddrOf}
use Rattle.vn_rules.specs.declared.route.TargetOf.{TargetOf}
use Rattle.vn_rules.specs.declared.route.TargetOf.TheVariants.{Link, Gateway}
use Rattle.vn_rules.specs.declared.arp.ArpEntryOf.{ArpEntryOf}
use Rattle.vn_rules.specs.declared.ping.PingOf.{PingOf}
use Rattle.vn_rules.specs.declared.ping.PingsOf.{PingsOf}
use Rattle.vn_rules.specs.declared.socket.GramOf.{GramOf}
use Rattle.vn_rules.specs.declared.socket.SocketOf.{SocketOf}
use Rattle.vn_rules.specs.declared.timer.TimerOf.{TimerOf}
use Rattle.vn_rules.specs.declared.timer.TimerOf.TheVariants.{Arp, Ping}
use Rattle.vn_rules.specs.declared.timer.TimersOf.{TimersOf}
use Rattle.vn_rules.specs.declared.parts.PartsOf.{PartsOf}
use Rattle.vn_rules.specs.Routes.{Routed}
use Rattle.vn_rules.specs.Timers.{Timed}

module _ {N M : Type 0} (r : N → M) where
  -- an address
  abbrev pub as_addr : AddrOf N → AddrOf M
  as_addr a = record { on = as_if r a.on; ip = a.ip; len = a.len }

  -- a target
  abbrev pub as_target : TargetOf N → TargetOf M
  as_target (Link on) = Link (as_if r on)
  as_target (Gateway via on) = Gateway via (r on)

  -- a target under its prefix
  abbrev pub as_routed : Routed N → Routed M
  as_routed e = (e.0, as_target e.1)

  -- what is known of a neighbour's address
  abbrev pub as_arp : ArpEntryOf N → ArpEntryOf M
  as_arp e = record {
    half = r e.half;
    ip = e.ip;
    state = e.state;
    mac = e.mac;
    requests = e.requests;
    held = e.held;
  }

  -- an awaited ping
  abbrev pub as_ping : PingOf N → PingOf M
  as_ping p = record { id = p.id; src = p.src; dst = p.dst; out = as_if r p.out; arm = p.arm }

  -- the pings of a stack
  abbrev pub as_pings : PingsOf N → PingsOf M
  as_pings p = record { next = p.next; awaited = map as_ping p.awaited }

  -- a received datagram
  abbrev pub as_gram : GramOf N → GramOf M
  as_gram g = record { src = g.src; sport = g.sport; octets = g.octets; via = as_if r g.via }

  -- a socket
  abbrev pub as_socket : SocketOf N → SocketOf M
  as_socket s = record {
    name = s.name;
    ip = s.ip;
    port = s.port;
    peer = s.peer;
    ttl = s.ttl;
    refused = s.refused;
    queue = map as_gram s.queue;
  }

  -- what a timer is for
  abbrev pub as_timer : TimerOf N → TimerOf M
  as_timer (Arp half ip) = Arp (r half) ip
  as_timer (Ping id arm) = Ping id arm

  -- a timer under its turn
  abbrev pub as_timed : Timed N → Timed M
  as_timed e = (e.0, as_timer e.1)

  -- the timers of a stack
  abbrev pub as_timers : TimersOf N → TimersOf M
  as_timers t = record { armed = t.armed; standing = map as_timed t.standing }

  -- all that a stack keeps
  unfoldable pub renamed : PartsOf N → PartsOf M
  renamed p = record {
    variables = p.variables;
    interfaces = map (as_if r) p.interfaces;
    addresses = map as_addr p.addresses;
    routes = map as_routed p.routes;
    arp = map as_arp p.arp;
    sockets = map as_socket p.sockets;
    timers = as_timers p.timers;
    loopback = p.loopback;
    pings = as_pings p.pings;
    ident = p.ident;
    drops = p.drops;
  }
