-- Which datagrams no ICMP error is sent about (RFC 792, RFC 1122 section 3.2.2).
use Rattle.std.specs.Prelude.{ℕ, Bool, false, not, ◌&&◌, ◌||◌, ◌==◌, List, slice_get}
use Rattle.std.specs.Option.{option_map_or}

-- the protocol number of ICMP
abbrev pub icmp_protocol : ℕ
icmp_protocol = 1

-- whether the first octet of a message is the type of an echo or of its reply
abbrev pub is_echo : List ℕ → Bool
is_echo message = option_map_or (λ type. (type == 0) || (type == 8)) (slice_get message 0) false

-- whether an error may be sent about a datagram, by its protocol and body and whether its frame was a
-- broadcast: not about broadcasts, nor about ICMP messages but echoes
abbrev pub may_answer : Bool → ℕ → List ℕ → Bool
may_answer is_broadcast protocol body =
    not is_broadcast && (not (protocol == icmp_protocol) || is_echo body)
