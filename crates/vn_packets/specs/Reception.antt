-- What comes to a stack: frames by its halves, and datagrams through lo0 (RFC 894, RFC 791).
use Rattle.std.specs.Prelude.{ℕ, Bool, false, not, ◌==◌, ◌&&◌, ◌||◌, List, [], ◌∷◌, Result, Ok, Err, if◌then◌else◌}
use Rattle.std.specs.Str.{bytes_eq}
use Rattle.vn_types.specs.declared.address.Mac.{Mac}
use Rattle.vn_types.specs.declared.interface.IfOf.{IfOf}
use Rattle.vn_types.specs.declared.interface.IfOf.TheVariants.{Lo0, Half}
use Rattle.vn_rules.specs.declared.parts.PartsOf.{PartsOf}
use Rattle.vn_rules.specs.Addresses.{is_half, local}
use Rattle.vn_rules.specs.Errors.{icmp_protocol}
use Rattle.vn_rules.specs.Networks.{is_no_host, is_loopback}
use Rattle.vn_rules.specs.Rules.{Common}
use Rattle.vn_rules.specs.Scenes.{LinkOf, SceneOf, link_of}
use Rattle.vn_rules.specs.Variables.{is_forwarding}
use Rattle.vn_ip4fmt.specs.declared.head.Ip4Head.{Ip4Head}
use Rattle.vn_link.specs.declared.ethernet.EthBad.{EthBad}
use Rattle.vn_link.specs.Frames.{EthFrame, eth_of}
use Rattle.vn_packets.specs.declared.tally.Tally.TheVariants as tally
use Rattle.vn_packets.specs.ArpPackets.{arp_received}
use Rattle.vn_packets.specs.Datagrams.{ip4_type, arp_type, broadcast_mac, udp_protocol, reads, whole, is_fragment, header_in}
use Rattle.vn_packets.specs.Drops.{on_parts, lost}
use Rattle.vn_packets.specs.Errors.{ProtocolUnreachable, errored}
use Rattle.vn_packets.specs.Forwarding.{forwarded}
use Rattle.vn_packets.specs.Icmp.{HeardOf, nothing_told, icmp_received}
use Rattle.vn_packets.specs.Output.{may_not_reach}
use Rattle.vn_packets.specs.Udp.{udp_received}

-- whether two hardware addresses are one
abbrev pub mac_eq : Mac → Mac → Bool
mac_eq a b = bytes_eq a.0 b.0

module _ {N : Type 0} where
  -- whether the addresses of a datagram that came by an interface are such as none has: a loopback address that
  -- came from outside, a source that is no host's, a destination that nothing may be sent to
  abbrev pub is_misaddressed : IfOf N → Ip4Head → PartsOf N → Bool
  is_misaddressed via head p =
      (is_half via && (is_loopback head.src || is_loopback head.dst)) || is_no_host head.src
      || may_not_reach head.dst p

  -- whether octets that came by an interface are dropped at once. Fragments are not put together.
  abbrev pub is_dropped_at_once : IfOf N → List ℕ → PartsOf N → Bool
  is_dropped_at_once via octets p =
      not (reads octets) || is_fragment (header_in octets) || is_misaddressed via (header_in octets) p

  -- whether a half with that link accepts a frame: it is up, and the frame is for it or for all
  abbrev pub accepts_frame : LinkOf N → EthFrame → Bool
  accepts_frame l frame = l.up && (mac_eq frame.dst l.mac || mac_eq frame.dst broadcast_mac)

module _ {N : Type 0} (same : N → N → Bool) where
  -- ---- datagrams

  -- of a protocol that is not known here. RFC 1122, section 3.2.2.1: a host "SHOULD" send 3/2 "when the designated
  -- transport protocol is not supported".
  abbrev pub unsupported : Common → IfOf N → List ℕ → Bool → SceneOf N → SceneOf N
  unsupported common via datagram is_broadcast s =
      errored same common via ProtocolUnreachable datagram is_broadcast (lost tally.Ip 1 s)

  -- for an address of the stack: by its protocol
  unfoldable pub delivered_locally : Common → IfOf N → List ℕ → Bool → SceneOf N → HeardOf N
  delivered_locally common via datagram is_broadcast s =
      if (header_in datagram).proto == icmp_protocol then icmp_received same common datagram s
      else (if (header_in datagram).proto == udp_protocol
      then nothing_told (udp_received same common via datagram is_broadcast s)
      else nothing_told (unsupported common via datagram is_broadcast s))

  -- for others: what is looped goes no further, and a host sends nothing on (RFC 1122, section 3.2.1.3)
  unfoldable pub passed_on : Common → IfOf N → List ℕ → Bool → SceneOf N → SceneOf N
  passed_on common via datagram is_broadcast s =
      if is_half via && is_forwarding s.parts.variables
      then forwarded same common via datagram is_broadcast s else lost tally.Ip 1 s

  -- a whole datagram for the stack or for others
  abbrev pub dispatched : Common → IfOf N → List ℕ → Bool → SceneOf N → HeardOf N
  dispatched common via datagram is_broadcast s =
      if local (header_in datagram).dst s.parts.addresses
      then delivered_locally common via datagram is_broadcast s
      else nothing_told (passed_on common via datagram is_broadcast s)

  -- octets that should be a datagram came by an interface, in a broadcast frame or not
  unfoldable pub datagram_received : Common → IfOf N → List ℕ → Bool → SceneOf N → HeardOf N
  datagram_received common via octets is_broadcast s =
      if is_dropped_at_once via octets s.parts then nothing_told (lost tally.Ip 1 s)
      else dispatched common via (whole octets) is_broadcast s

  -- the first datagram that is on its way through lo0
  abbrev pub looped_back : List (List ℕ) → Common → SceneOf N → HeardOf N
  looped_back [] common s = nothing_told s
  looped_back (datagram ∷ more) common s =
      datagram_received common Lo0 datagram false (on_parts (λ p. record p { loopback = more }) s)

  -- it is taken and received
  unfoldable pub loop_received : Common → SceneOf N → HeardOf N
  loop_received common s = looped_back s.parts.loopback common s

  -- ---- frames

  -- a frame for the half: by its type
  abbrev pub frame_taken : Common → N → EthFrame → SceneOf N → HeardOf N
  frame_taken common h frame s =
      if frame.kind == arp_type then nothing_told (arp_received same common h frame.payload s)
      else (if frame.kind == ip4_type
      then datagram_received common (Half h) frame.payload (mac_eq frame.dst broadcast_mac) s
      else nothing_told (lost tally.Link 1 s))

  -- what was read, or why nothing was
  abbrev pub frame_read : LinkOf N → Common → N → Result EthFrame EthBad → SceneOf N → HeardOf N
  frame_read l common h (Err bad) s = nothing_told (lost tally.Link 1 s)
  frame_read l common h (Ok frame) s =
      if accepts_frame l frame then frame_taken common h frame s else nothing_told (lost tally.Link 1 s)

  -- a frame that came to a half
  unfoldable pub frame_received : Common → N → List ℕ → SceneOf N → HeardOf N
  frame_received common h octets s = frame_read (link_of same h s) common h (eth_of octets) s
