-- The octets that a stack sends, and what it reads of those that come (RFC 791, RFC 792, RFC 894).
use Rattle.std.specs.Prelude.{ℕ, ◌+◌, Bool, false, not, ◌||◌, ◌==◌, List, [], ◌∷◌, ◌++◌, length, take, drop}
use Rattle.std.specs.Option.{is_some}
use Rattle.vn_types.specs.declared.address.Ip4.{Ip4}
use Rattle.vn_types.specs.declared.address.Mac.{Mac}
use Rattle.vn_types.specs.Ip4Header.{header_of, header_len, header_size}
use Rattle.vn_ip4fmt.specs.declared.head.Ip4Head.{Ip4Head}
use Rattle.vn_ip4fmt.specs.Datagram.{refusal}
use Rattle.vn_ip4fmt.specs.Heads.{head_of, plain_octets, plain_checksum}
use Rattle.vn_link.specs.Frames.{eth_header}
use Rattle.vn_icmpfmt.specs.Messages.{Message, message_with, error_with, summed}
use Rattle.vn_packets.specs.declared.outgoing.Outgoing.{Outgoing}

-- ---- frames

-- the type of a frame with a datagram
abbrev pub ip4_type : ℕ
ip4_type = 0x0800

-- the type of a frame with an ARP packet
abbrev pub arp_type : ℕ
arp_type = 0x0806

-- ff:ff:ff:ff:ff:ff, the address of all stations (RFC 894)
abbrev pub broadcast_mac : Mac
broadcast_mac = record { 0 = 255 ∷ 255 ∷ 255 ∷ 255 ∷ 255 ∷ 255 ∷ [] }

-- the octets of a frame, to and from a station
unfoldable pub frame_with : Mac → Mac → ℕ → List ℕ → List ℕ
frame_with dst src type payload = eth_header dst src type ++ payload

-- ---- datagrams that are sent

-- the protocol number of UDP
abbrev pub udp_protocol : ℕ
udp_protocol = 17

-- the time to live of errors and of echo replies
abbrev pub reply_ttl : ℕ
reply_ttl = 64

-- the header of a whole datagram: no service asked for, no flags, no options
abbrev pub head_for : ℕ → Ip4 → Outgoing → Ip4Head
head_for id src send = record {
  tos = 0;
  id = id;
  df = false;
  mf = false;
  offset = 0;
  ttl = send.ttl;
  proto = send.proto;
  src = src;
  dst = send.dst;
}

-- how many octets it has in all
abbrev pub total_of : Outgoing → ℕ
total_of send = header_size + length send.body

-- its octets, with an identification and a source
unfoldable pub datagram_with : ℕ → Ip4 → Outgoing → List ℕ
datagram_with id src send =
    let head = head_for id src send in
    plain_octets head (total_of send) (plain_checksum head (total_of send)) ++ send.body

-- an ICMP message with its checksum
unfoldable pub message_octets : Message → List ℕ
message_octets m = summed (message_with m)

-- an ICMP error with its checksum
unfoldable pub error_octets : ℕ → ℕ → List ℕ → List ℕ
error_octets kind code quoted = summed (error_with kind code quoted)

-- ---- datagrams that come

-- whether octets are a datagram
abbrev pub reads : List ℕ → Bool
reads octets = not (is_some (refusal octets))

-- the octets up to the total length: those behind count for nothing
unfoldable pub whole : List ℕ → List ℕ
whole octets = take (header_of octets).total octets

-- what stands behind the header of a whole datagram
unfoldable pub body_of : List ℕ → List ℕ
body_of datagram = drop (header_len datagram) datagram

-- whether it is a piece of a datagram
abbrev pub is_fragment : Ip4Head → Bool
is_fragment head = head.mf || not (head.offset == 0)

-- what is read of its header
unfoldable pub header_in : List ℕ → Ip4Head
header_in datagram = head_of datagram
