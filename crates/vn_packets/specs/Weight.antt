-- How much what waits may still bring about: each delivery that takes something lowers the sum, so
-- that deliveries come to an end.
use Rattle.std.specs.Prelude.{ℕ, ◌+◌, ◌*◌, ◌==◌, ◌&&◌, Bool, List, drop, is_none, length, map, nat_lt, slice_get, sum, Option, Some, None, if◌then◌else◌}
use Rattle.vn_types.specs.Ip4Header.{header_of}
use Rattle.vn_link.specs.Frames as frames
use Rattle.vn_link.specs.Packets.{arp_refusal, packet_of}
use Rattle.vn_rules.specs.declared.arp.ArpEntryOf.{ArpEntryOf}
use Rattle.vn_rules.specs.declared.parts.PartsOf.{PartsOf}
use Rattle.vn_rules.specs.Errors.{icmp_protocol}
use Rattle.vn_rules.specs.Scenes.{LinkOf, SceneOf}
use Rattle.vn_packets.specs.ArpPackets.{request_op}
use Rattle.vn_packets.specs.Datagrams.{arp_type, body_of, ip4_type, reads, whole}

-- ---- datagrams

-- of an ICMP message, besides its hops: an echo may be replied to, with a request for the sender's hardware
-- address; a reply may be answered by an error; and about any other message no error is sent (RFC 1122)
abbrev pub message_weight : Option ℕ → ℕ
message_weight None = 1
message_weight (Some kind) = if kind == 8 then 521 else (if kind == 0 then 261 else 1)

-- of what a datagram carries, besides its hops
abbrev pub body_weight : ℕ → List ℕ → ℕ
body_weight proto body =
    if proto == icmp_protocol then message_weight (slice_get body 0) else 261

-- of a datagram: on each hop it may be held, and a request be sent for it
unfoldable pub datagram_weight : List ℕ → ℕ
datagram_weight octets =
    if reads octets
    then 4 * (header_of octets).ttl + body_weight (header_of octets).proto (body_of (whole octets))
    else 1

-- of several
abbrev pub datagrams_weight : List (List ℕ) → ℕ
datagrams_weight datagrams = sum (map datagram_weight datagrams)

-- ---- frames

-- whether octets are a packet that asks for an address
abbrev pub is_request : List ℕ → Bool
is_request octets = is_none (arp_refusal octets) && ((packet_of octets).op == request_op)

-- of an ARP packet: a request may be replied to
abbrev pub packet_weight : List ℕ → ℕ
packet_weight octets = if is_request octets then 2 else 1

-- of what a frame carries, by its type
abbrev pub payload_weight : ℕ → List ℕ → ℕ
payload_weight type octets =
    if type == ip4_type then datagram_weight octets
    else (if type == arp_type then packet_weight octets else 1)

-- of a frame
unfoldable pub frame_weight : List ℕ → ℕ
frame_weight frame =
    if nat_lt (length frame) frames.header_size then 1
    else payload_weight (frames.header_of frame).type_code (drop frames.header_size frame)

-- of several
abbrev pub frames_weight : List (List ℕ) → ℕ
frames_weight waiting = sum (map frame_weight waiting)

-- ---- stacks

module _ {N : Type 0} where
  -- of the datagrams on their way through lo0, and of those that are held
  unfoldable pub parts_weight : PartsOf N → ℕ
  parts_weight p =
      datagrams_weight p.loopback + sum (map (λ (e : ArpEntryOf N). datagrams_weight e.held) p.arp)

  -- and of the frames that the halves sent
  unfoldable pub scene_weight : SceneOf N → ℕ
  scene_weight s =
      parts_weight s.parts + sum (map (λ (l : LinkOf N). frames_weight l.sent) s.links)
