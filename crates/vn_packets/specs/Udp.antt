-- UDP datagrams that a socket sends, and those that come (RFC 768).
use Rattle.std.specs.Prelude.{ℕ, Bool, is_some, List, drop, Option, Some, None, if◌then◌else◌}
use Rattle.vn_types.specs.declared.address.Ip4.{Ip4}
use Rattle.vn_types.specs.declared.interface.IfOf.{IfOf}
use Rattle.vn_udpfmt.specs.Datagram.{refusal, whole}
use Rattle.vn_udpfmt.specs.Header.{header_of, header_size}
use Rattle.vn_udpfmt.specs.Written.{checksum_for, datagram_for}
use Rattle.vn_rules.specs.declared.parts.PartsOf.{PartsOf}
use Rattle.vn_rules.specs.declared.socket.GramOf.{GramOf}
use Rattle.vn_rules.specs.Rules.{Common}
use Rattle.vn_rules.specs.Scenes.{SceneOf}
use Rattle.vn_rules.specs.Sockets.{is_full_at, socket_for, with_gram}
use Rattle.vn_packets.specs.declared.tally.Tally.TheVariants.{Udp, Full}
use Rattle.vn_packets.specs.Datagrams.{body_of, header_in}
use Rattle.vn_packets.specs.Drops.{counted, lost, on_parts}
use Rattle.vn_packets.specs.Errors.{PortUnreachable, errored}

-- the octets that go from a port and an address to others, with a checksum where one is computed
abbrev pub udp_octets : Ip4 → ℕ → Ip4 × ℕ → List ℕ → Bool → List ℕ
udp_octets src sport to octets computed =
    datagram_for sport to.1 octets (checksum_for src to.0 sport to.1 octets computed)

module _ {N : Type 0} where
  -- what a socket keeps of a datagram that came by an interface
  abbrev pub gram_from : Ip4 → List ℕ → IfOf N → GramOf N
  gram_from src octets via = record {
    src = src;
    sport = (header_of octets).sport;
    octets = drop header_size (whole octets);
    via = via;
  }

  -- the socket at a place gets it, where there is room
  unfoldable pub given : ℕ → GramOf N → PartsOf N → PartsOf N
  given place gram p =
      if is_full_at place p.sockets then counted Full 1 p
      else record p { sockets = with_gram place gram p.sockets }

  -- the place of the socket that a datagram from an address is for
  abbrev pub receiver : Ip4 → Ip4 → List ℕ → PartsOf N → Option ℕ
  receiver src dst octets p =
      socket_for dst (header_of octets).dport src (header_of octets).sport p.sockets

module _ {N : Type 0} (same : N → N → Bool) where
  -- no socket is for it: none has the port, or its address or its peer is another. RFC 1122, section 4.1.3.1: "If a datagram arrives addressed to a UDP port for which
  -- there is no pending LISTEN call, UDP SHOULD send an ICMP Port Unreachable message."
  abbrev pub unreceived : Common → IfOf N → List ℕ → Bool → SceneOf N → SceneOf N
  unreceived common via datagram is_broadcast s =
      errored same common via PortUnreachable datagram is_broadcast (lost Udp 1 s)

  -- by the socket that it is for
  unfoldable pub received_by :
      Option ℕ → Common → IfOf N → List ℕ → Bool → SceneOf N → SceneOf N
  received_by None common via datagram is_broadcast s = unreceived common via datagram is_broadcast s
  received_by (Some place) common via datagram is_broadcast s =
      on_parts (given place (gram_from (header_in datagram).src (body_of datagram) via)) s

  -- a datagram for the stack that carries UDP, whole, by which interface it came and whether in a broadcast
  unfoldable pub udp_received : Common → IfOf N → List ℕ → Bool → SceneOf N → SceneOf N
  udp_received common via datagram is_broadcast s =
      let src = (header_in datagram).src in
      let dst = (header_in datagram).dst in
      let octets = body_of datagram in
      if is_some (refusal src dst octets) then lost Udp 1 s
      else received_by (receiver src dst octets s.parts) common via datagram is_broadcast s
