-- The packets of address resolution, and what they do to a stack (RFC 826, arp(4)).
use Rattle.std.specs.Prelude.{ℕ, Bool, not, ◌&&◌, ◌||◌, ◌==◌, List, [], ◌∷◌, Option, Some, None, Result, Ok, Err, unwrap_or, if◌then◌else◌}
use Rattle.std.specs.Option.{option_map}
use Rattle.vn_types.specs.declared.address.Ip4.{Ip4}
use Rattle.vn_types.specs.declared.address.Mac.{Mac}
use Rattle.vn_types.specs.declared.interface.IfOf.TheVariants.{Half}
use Rattle.vn_rules.specs.declared.parts.PartsOf.{PartsOf}
use Rattle.vn_rules.specs.Addresses.{local, on_interface, source_for}
use Rattle.vn_rules.specs.Arp.{entry_of, hit}
use Rattle.vn_rules.specs.Resolution as resolution
use Rattle.vn_rules.specs.Resolution.{TurnOf, Ask, GivesUp, Removed, turn_of, asks, drops_oldest, after_hold, after_input, after_turn}
use Rattle.vn_rules.specs.Routes.{covers}
use Rattle.vn_rules.specs.Rules.{Common}
use Rattle.vn_rules.specs.Scenes.{SceneOf, no_mac, link_of}
use Rattle.vn_link.specs.declared.arp.ArpBad.{ArpBad}
use Rattle.vn_link.specs.declared.arp.ArpPacket.{ArpPacket}
use Rattle.vn_link.specs.Packets.{arp_of, arp_octets}
use Rattle.vn_packets.specs.declared.tally.Tally.TheVariants as tally
use Rattle.vn_packets.specs.Datagrams.{ip4_type, arp_type, broadcast_mac, frame_with}
use Rattle.vn_packets.specs.Drops.{on_parts, lost, lost_if}
use Rattle.vn_packets.specs.Links.{sent}

-- ---- packets

-- the operation of a request, RFC 826's ares_op$REQUEST
abbrev pub request_op : ℕ
request_op = 1

-- the operation of a reply, RFC 826's ares_op$REPLY
abbrev pub reply_op : ℕ
reply_op = 2

-- who has the address? RFC 826 leaves the target's hardware address open: it is zero
abbrev pub request : Mac → Ip4 → Ip4 → ArpPacket
request mac from asked =
    record { op = request_op; sha = mac; spa = from; tha = no_mac; tpa = asked }

-- a request for the sender's own address, which tells it to all (RFC 5227, section 2.3)
abbrev pub gratuitous : Mac → Ip4 → ArpPacket
gratuitous mac ip = request mac ip ip

-- RFC 826: "Swap hardware and protocol fields, putting the local hardware and protocol addresses in the
-- sender fields."
abbrev pub reply : Mac → ArpPacket → ArpPacket
reply mac packet =
    record { op = reply_op; sha = mac; spa = packet.tpa; tha = packet.sha; tpa = packet.spa }

-- the address of a sender that has none
abbrev pub unset_ip : Ip4
unset_ip = record { 0 = 0 }

-- the frame of a packet, from the hardware address that it tells
abbrev pub arp_frame : Mac → ArpPacket → List ℕ
arp_frame to packet = frame_with to packet.sha arp_type (arp_octets packet)

module _ {N : Type 0} (same : N → N → Bool) where
  -- ---- what is sent

  -- a half's own hardware address
  abbrev pub mac_of : N → SceneOf N → Mac
  mac_of h s = (link_of same h s).mac

  -- a packet goes out by a half, to a station
  abbrev pub sent_arp : N → Mac → ArpPacket → SceneOf N → SceneOf N
  sent_arp h to packet s = sent same h (arp_frame to packet) s

  -- the source of what a half sends to an address on its network
  abbrev pub asking_source : N → Ip4 → PartsOf N → Ip4
  asking_source h ip p = unwrap_or (source_for same (Half h) ip p.addresses) unset_ip

  -- all are asked for an address: the packet's "ar$tpa" is "the protocol address of the machine that is
  -- trying to be accessed"
  unfoldable pub requested : N → Ip4 → SceneOf N → SceneOf N
  requested h ip s =
      sent_arp h broadcast_mac (request (mac_of h s) (asking_source h ip s.parts) ip) s

  -- an address of a half is told to all
  unfoldable pub announced : N → Ip4 → SceneOf N → SceneOf N
  announced h ip s = sent_arp h broadcast_mac (gratuitous (mac_of h s) ip) s

  -- a datagram goes out by a half, to a station
  unfoldable pub sent_datagram : N → Mac → List ℕ → SceneOf N → SceneOf N
  sent_datagram h to datagram s = sent same h (frame_with to (mac_of h s) ip4_type datagram) s

  -- datagrams go out by a half to a station, one after another
  unfoldable pub sent_datagrams : N → Mac → List (List ℕ) → SceneOf N → SceneOf N
  sent_datagrams h to [] s = s
  sent_datagrams h to (datagram ∷ more) s = sent_datagrams h to more (sent_datagram h to datagram s)

  -- ---- a datagram waits

  -- all are asked for an address, where the test passes
  abbrev pub requested_if : Bool → N → Ip4 → SceneOf N → SceneOf N
  requested_if is h ip s = if is then requested h ip s else s

  -- a datagram waits for an address, as the tables tell
  abbrev pub waits : Common → N → Ip4 → List ℕ → SceneOf N → SceneOf N
  waits common h ip datagram s = on_parts (after_hold same common.clock h ip datagram) s

  -- a datagram is held for an address of which the hardware address is not known
  unfoldable pub held : Common → N → Ip4 → List ℕ → SceneOf N → SceneOf N
  held common h ip datagram s =
      let entries = s.parts.arp in
      requested_if (asks same h ip entries) h ip
      (lost_if (drops_oldest same h ip entries) tally.Full (waits common h ip datagram s))

  -- it is sent where the hardware address is known, and else held
  abbrev pub carried_by : Option Mac → Common → N → Ip4 → List ℕ → SceneOf N → SceneOf N
  carried_by None common h ip datagram s = held common h ip datagram s
  carried_by (Some mac) common h ip datagram s = sent_datagram h mac datagram s

  -- a datagram goes to the next hop on a half
  unfoldable pub carried : Common → N → Ip4 → List ℕ → SceneOf N → SceneOf N
  carried common h ip datagram s = carried_by (hit same h ip s.parts.arp) common h ip datagram s

  -- ---- a packet comes

  -- whether its sender counts for nothing: it has an address of the stack, or one beyond the half's networks
  abbrev pub is_stranger : N → Ip4 → PartsOf N → Bool
  is_stranger h ip p = local ip p.addresses || not (covers same (Half h) ip p.routes)

  -- a reply goes out, where the test passes
  abbrev pub replied_if : Bool → N → ArpPacket → SceneOf N → SceneOf N
  replied_if is h packet s = if is then sent_arp h packet.sha (reply (mac_of h s) packet) s else s

  -- whether it is about an address of the half
  abbrev pub is_target : N → ArpPacket → SceneOf N → Bool
  is_target h packet s = on_interface same (Half h) packet.tpa s.parts.addresses

  -- the datagrams that wait for its sender
  abbrev pub waiting : N → ArpPacket → SceneOf N → List (List ℕ)
  waiting h packet s = resolution.released same h packet.spa s.parts.arp

  -- its sender's hardware address is learnt
  abbrev pub learnt : Common → N → ArpPacket → SceneOf N → SceneOf N
  learnt common h packet s =
      on_parts (after_input same common.clock h packet.spa packet.sha (is_target h packet s)) s

  -- the sender is learnt, what waited for it is sent, and then a request is replied to
  unfoldable pub arp_heard : Common → N → ArpPacket → SceneOf N → SceneOf N
  arp_heard common h packet s =
      replied_if (is_target h packet s && (packet.op == request_op)) h packet
      (sent_datagrams h packet.sha (waiting h packet s) (learnt common h packet s))

  -- what was read, or why nothing was
  abbrev pub arp_read : Common → N → Result ArpPacket ArpBad → SceneOf N → SceneOf N
  arp_read common h (Err bad) s = lost tally.Arp 1 s
  arp_read common h (Ok packet) s =
      if is_stranger h packet.spa s.parts then lost tally.Arp 1 s else arp_heard common h packet s

  -- the payload of a frame of the type of ARP
  unfoldable pub arp_received : Common → N → List ℕ → SceneOf N → SceneOf N
  arp_received common h octets s = arp_read common h (arp_of octets) s

  -- ---- an entry's timer, which was taken out

  -- what goes out or is counted with it
  abbrev pub turn_told : N → Ip4 → Option TurnOf → SceneOf N → SceneOf N
  turn_told h ip None s = s
  turn_told h ip (Some Ask) s = requested h ip s
  turn_told h ip (Some (GivesUp waiting)) s = lost tally.Arp waiting s
  turn_told h ip (Some Removed) s = s

  -- the entry is asked for again, given up or removed
  unfoldable pub arp_turned : Common → N → Ip4 → SceneOf N → SceneOf N
  arp_turned common h ip s =
      turn_told h ip (option_map turn_of (entry_of same h ip s.parts.arp))
      (on_parts (after_turn same common.clock h ip) s)
