-- How a stack sends a datagram: which way it goes, from which address, and why it does not (RFC 791).
use Rattle.std.specs.Prelude.{ℕ, ◌+◌, ◌%◌, ◌^◌, Bool, true, not, ◌&&◌, ◌||◌, nat_le, nat_lt, List, [], ◌∷◌, ◌++◌, length, Option, Some, None, Result, unwrap_or, is_some, if◌then◌else◌}
use Rattle.std.specs.Option.{option_or}
use Rattle.vn_types.specs.declared.address.Ip4.{Ip4}
use Rattle.vn_types.specs.declared.errno.Errno.{Errno}
use Rattle.vn_types.specs.declared.errno.Errno.TheVariants as errno
use Rattle.vn_types.specs.declared.interface.IfOf.{IfOf}
use Rattle.vn_types.specs.declared.interface.IfOf.TheVariants.{Lo0, Half}
use Rattle.vn_types.specs.Refusals.{first_refusal, unless}
use Rattle.vn_rules.specs.declared.arp.ArpEntryOf.{ArpEntryOf}
use Rattle.vn_rules.specs.declared.parts.PartsOf.{PartsOf}
use Rattle.vn_rules.specs.declared.parts.TheConstants.{LOOPBACK_MAX}
use Rattle.vn_rules.specs.declared.route.TargetOf.TheVariants.{Link, Gateway}
use Rattle.vn_rules.specs.Addresses.{local, broadcast, source_for}
use Rattle.vn_rules.specs.Arp.{hit, is_down}
use Rattle.vn_rules.specs.Networks.{is_no_host, is_loopback}
use Rattle.vn_rules.specs.Routes.{Routed, lookup}
use Rattle.vn_rules.specs.Rules.{Common}
use Rattle.vn_rules.specs.Scenes.{LinkOf, SceneOf, link_of}
use Rattle.vn_rules.specs.SocketRefusals.{Conditions}
use Rattle.vn_packets.specs.declared.outgoing.Outgoing.{Outgoing}
use Rattle.vn_packets.specs.declared.outgoing.SentOf.{SentOf}
use Rattle.vn_packets.specs.declared.outgoing.TheConstants.{HALF_MTU, LO0_MTU}
use Rattle.vn_packets.specs.ArpPackets.{unset_ip, carried}
use Rattle.vn_packets.specs.Datagrams.{total_of, datagram_with}
use Rattle.vn_packets.specs.Drops.{on_parts}
use Rattle.vn_packets.specs.Links.{is_link_full}

-- where a datagram goes
pub data WayOf (N : Type 0) : Type 0 where
  -- no route covers its destination
  Nowhere : WayOf N
  -- back into the stack, through lo0
  Looped : WayOf N
  -- out by a half, to the next hop
  By : N → Ip4 → WayOf N

module _ {N : Type 0} where
  -- ---- the way

  -- whether nothing may be sent to the address: no host has it, or it is the last address of a network on one of the
  -- stack's halves, of length up to 30
  unfoldable pub may_not_reach : Ip4 → PartsOf N → Bool
  may_not_reach ip p = is_no_host ip || broadcast ip p.addresses

  -- along a route. RFC 1122, section 3.3.1: "If the destination is on a connected network, the datagram is
  -- sent directly to the destination host; otherwise, it has to be routed to a gateway on a connected network."
  abbrev pub way_along : Ip4 → Option (Routed N) → WayOf N
  way_along ip None = Nowhere
  way_along ip (Some (to, Link Lo0)) = Looped
  way_along ip (Some (to, Link (Half h))) = By h ip
  way_along ip (Some (to, Gateway via h)) = By h via

  -- to a destination
  unfoldable pub way_to : Ip4 → PartsOf N → WayOf N
  way_to ip p = if local ip p.addresses then Looped else way_along ip (lookup ip p.routes)

  -- the interface by which it leaves
  abbrev pub way_out : WayOf N → IfOf N
  way_out Nowhere = Lo0
  way_out Looped = Lo0
  way_out (By h hop) = Half h

  -- ---- what a datagram changes in the tables

  -- the next identification
  abbrev pub identified : PartsOf N → PartsOf N
  identified p = record p { ident = (p.ident + 1) % 2 ^ 16 }

  -- a datagram is on its way through lo0
  abbrev pub looped : List ℕ → PartsOf N → PartsOf N
  looped datagram p = record p { loopback = p.loopback ++ datagram ∷ [] }

module _ {N : Type 0} (same : N → N → Bool) where
  -- ---- the source

  -- of a datagram that goes that way: an address on the network of the first hop (RFC 1122, section 3.3.4.3);
  -- through lo0 the destination itself, where the stack has it
  abbrev pub source_by : Ip4 → WayOf N → PartsOf N → Option Ip4
  source_by ip Nowhere p = None
  source_by ip Looped p =
      if local ip p.addresses then Some ip else source_for same Lo0 ip p.addresses
  source_by ip (By h hop) p = source_for same (Half h) hop p.addresses

  -- of a datagram to a destination, where its sender sets none
  unfoldable pub chosen_source : Ip4 → PartsOf N → Option Ip4
  chosen_source ip p = source_by ip (way_to ip p) p

  -- the source that a datagram has
  unfoldable pub source_of : Outgoing → PartsOf N → Ip4
  source_of send p = unwrap_or (option_or send.src (chosen_source send.dst p)) unset_ip

  -- ---- refusals

  -- of what goes out by a half with that link, to a hop. RFC 1122, section 3.2.1.3, about addresses that begin
  -- with 127: they "MUST NOT appear outside a host".
  abbrev pub half_refusals : N → LinkOf N → Ip4 → Ip4 → Outgoing → List (ArpEntryOf N) → Conditions
  half_refusals h l hop src send entries =
      (not l.up, errno.NetDown)
      ∷ (is_loopback src || is_loopback send.dst, errno.AddrNotAvail)
      ∷ (nat_lt HALF_MTU (total_of send), errno.MsgSize)
      ∷ (is_down same h hop entries, errno.HostDown)
      ∷ (is_some (hit same h hop entries) && is_link_full l, errno.NoBufs)
      ∷ []

  -- of what goes that way
  abbrev pub way_refusals : WayOf N → Errno → Outgoing → SceneOf N → Conditions
  way_refusals Nowhere no_route send s = (true, no_route) ∷ []
  way_refusals Looped no_route send s =
      (nat_lt LO0_MTU (total_of send), errno.MsgSize)
      ∷ (nat_le LOOPBACK_MAX (length s.parts.loopback), errno.NoBufs)
      ∷ []
  way_refusals (By h hop) no_route send s =
      half_refusals h (link_of same h s) hop (source_of send s.parts) send s.parts.arp

  -- in their order; the caller says what a destination without a route is refused with
  unfoldable pub output_refusals : Errno → Outgoing → SceneOf N → Conditions
  output_refusals no_route send s =
      (may_not_reach send.dst s.parts, errno.Inval)
      ∷ way_refusals (way_to send.dst s.parts) no_route send s

  -- ---- what is left where none applies

  -- a datagram goes that way
  abbrev pub sent_along : WayOf N → Common → List ℕ → SceneOf N → SceneOf N
  sent_along Nowhere common datagram s = s
  sent_along Looped common datagram s = on_parts (looped datagram) s
  sent_along (By h hop) common datagram s = carried same common h hop datagram s

  -- the octets of the next datagram
  abbrev pub next_datagram : Outgoing → PartsOf N → List ℕ
  next_datagram send p = datagram_with p.ident (source_of send p) send

  -- it is looped, queued or held
  unfoldable pub output_left : Common → Outgoing → SceneOf N → SceneOf N
  output_left common send s =
      sent_along (way_to send.dst s.parts) common (next_datagram send s.parts) (on_parts identified s)

  -- from which address it goes, and by which interface
  unfoldable pub output_sent : Outgoing → PartsOf N → SentOf N
  output_sent send p = record { src = source_of send p; out = way_out (way_to send.dst p) }

  -- ---- all in one

  -- a datagram is sent, or refused
  unfoldable pub output : Common → Errno → Outgoing → SceneOf N → Result (SentOf N × SceneOf N) Errno
  output common no_route send s =
      unless (first_refusal (output_refusals no_route send s))
      (output_sent send s.parts, output_left common send s)
