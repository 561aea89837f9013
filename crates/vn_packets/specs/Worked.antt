-- Octets that stacks send, as they stand on the wire.
use Rattle.std.specs.Prelude.{ℕ, true, List, [], ◌∷◌, take, drop, codes, None}
use Rattle.std.specs.List.{flat_map}
use Rattle.vn_types.specs.declared.address.Ip4.{Ip4}
use Rattle.vn_types.specs.declared.interface.Side.TheVariants.{A}
use Rattle.vn_types.specs.AddressWords.{hex_octet}
use Rattle.vn_rules.specs.Errors.{icmp_protocol}
use Rattle.vn_rules.specs.Macs.{first_mac}
use Rattle.vn_packets.specs.declared.outgoing.Outgoing.{Outgoing}
use Rattle.vn_packets.specs.ArpPackets.{request, arp_frame}
use Rattle.vn_packets.specs.Datagrams.{broadcast_mac, datagram_with}
use Rattle.vn_packets.specs.PingCommand.{request_octets}
use Rattle.vn_packets.specs.Udp.{udp_octets}

-- two hexadecimal digits for each octet
unfoldable pub hex_text : List ℕ → List ℕ
hex_text octets = flat_map hex_octet octets

-- 10.0.0.1, on half a of the first pair
abbrev near_ip : Ip4
near_ip = record { 0 = 0x0a000001 }

-- 10.0.0.2, of its neighbour
abbrev next_ip : Ip4
next_ip = record { 0 = 0x0a000002 }

-- 10.0.1.1, beyond a router
abbrev far_ip : Ip4
far_ip = record { 0 = 0x0a000101 }

-- the first echo request of 10.0.0.1 to an address, with a time to live
abbrev ping_to : Ip4 → ℕ → Outgoing
ping_to ip ttl = record {
  src = None;
  dst = ip;
  proto = icmp_protocol;
  ttl = ttl;
  body = request_octets 0;
}

-- the frame that asks for the neighbour
unfoldable pub asking_frame : List ℕ
asking_frame = arp_frame broadcast_mac (request (first_mac 0 A) near_ip next_ip)

-- the header of a ping to the neighbour
unfoldable pub ping_header : List ℕ
ping_header = take 20 (datagram_with 0 near_ip (ping_to next_ip 64))

-- the header checksum of a ping beyond the router with a time to live of 1
unfoldable pub short_checksum : List ℕ
short_checksum = take 2 (drop 10 (datagram_with 0 near_ip (ping_to far_ip 1)))

-- the checksum of the first echo request
unfoldable pub echo_checksum : List ℕ
echo_checksum = take 2 (drop 2 (request_octets 0))

-- a UDP datagram from port 5000 to the neighbour's port 7, whose checksum comes out as 0
unfoldable pub zero_sum : List ℕ
zero_sum = udp_octets near_ip 5000 (next_ip, 7) (0xd8 ∷ 0x48 ∷ []) true

-- the frame in hexadecimal digits
abbrev pub asking_text : List ℕ
asking_text = codes "ffffffffffff02000000000a0806000108000604000102000000000a0a0000010000000000000a000002"

-- the header in hexadecimal digits
abbrev pub ping_text : List ℕ
ping_text = codes "4500005400000000400166a70a0000010a000002"
