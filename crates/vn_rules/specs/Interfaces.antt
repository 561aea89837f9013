-- The interfaces of a stack, in order of attachment, and those that its parts name.
use Rattle.std.specs.Prelude.{Bool, false, not, List, [], ◌∷◌, ◌++◌, map, Option, Some, None}
use Rattle.std.specs.List.{list_any, filter, filter_map, flat_map}
use Rattle.vn_types.specs.declared.interface.IfOf.{IfOf}
use Rattle.vn_types.specs.declared.interface.IfOf.TheVariants.{Lo0, Half}
use Rattle.vn_types.specs.Interfaces.{if_same}
use Rattle.vn_rules.specs.declared.address.AddrOf.{AddrOf}
use Rattle.vn_rules.specs.declared.arp.ArpEntryOf.{ArpEntryOf}
use Rattle.vn_rules.specs.declared.ping.PingOf.{PingOf}
use Rattle.vn_rules.specs.declared.socket.GramOf.{GramOf}
use Rattle.vn_rules.specs.declared.socket.SocketOf.{SocketOf}
use Rattle.vn_rules.specs.declared.timer.TimerOf.{TimerOf}
use Rattle.vn_rules.specs.declared.timer.TimerOf.TheVariants.{Arp, Ping}
use Rattle.vn_rules.specs.declared.parts.PartsOf.{PartsOf}
use Rattle.vn_rules.specs.Routes.{Routed, target_if}

module _ {N : Type 0} where
  -- the interfaces by which the datagrams of a socket came
  abbrev pub queue_ifs : SocketOf N → List (IfOf N)
  queue_ifs s = map (λ (g : GramOf N). g.via) s.queue

  -- each interface that an address, a route, an ARP entry, an awaited ping or a queued datagram names
  unfoldable pub named_ifs : PartsOf N → List (IfOf N)
  named_ifs p =
      map (λ (a : AddrOf N). a.on) p.addresses
      ++ map (λ (e : Routed N). target_if e.1) p.routes
      ++ map (λ (e : ArpEntryOf N). Half e.half) p.arp
      ++ map (λ (g : PingOf N). g.out) p.pings.awaited
      ++ flat_map queue_ifs p.sockets

  -- the half that an interface is
  abbrev pub if_half : IfOf N → Option N
  if_half Lo0 = None
  if_half (Half h) = Some h

  -- the half of the ARP entry that a timer is for
  abbrev pub timer_half : TimerOf N → Option N
  timer_half (Arp half ip) = Some half
  timer_half (Ping id arm) = None

  -- each half that stands in a stack, that its parts name or that a timer is for
  unfoldable pub halves_in : PartsOf N → List N
  halves_in p =
      filter_map if_half p.interfaces ++ filter_map if_half (named_ifs p)
      ++ filter_map (λ e. timer_half e.1) p.timers.standing

  -- ---- interfaces that come

  -- the interface is attached, last
  abbrev pub with_interface : IfOf N → List (IfOf N) → List (IfOf N)
  with_interface on ifs = ifs ++ on ∷ []

module _ {N : Type 0} (same : N → N → Bool) where
  -- and that go: the interface is none of them
  abbrev pub without_interface : IfOf N → List (IfOf N) → List (IfOf N)
  without_interface on ifs = filter (λ own. not (if_same same own on)) ifs

  -- whether the interface is one of these
  abbrev pub is_among : List (IfOf N) → IfOf N → Bool
  is_among ifs on = list_any (if_same same on) ifs

  -- whether the timer is that of an ARP entry on the half
  abbrev pub is_timer_of : N → TimerOf N → Bool
  is_timer_of half (Arp own ip) = same own half
  is_timer_of half (Ping id arm) = false
