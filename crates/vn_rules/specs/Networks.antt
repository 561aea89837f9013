-- Networks of addresses.
use Rattle.std.specs.Prelude.{ℕ, Bool, ◌==◌, ◌&&◌, ◌||◌, nat_lt, nat_le, ◌+◌, ◌-◌, ◌*◌, ◌/◌, ◌^◌}
use Rattle.vn_types.specs.declared.address.Ip4.{Ip4}
use Rattle.vn_types.specs.declared.address.Prefix.{Prefix}

-- an address with the bits past a length of at most 32 cleared
unfoldable pub network_of : Ip4 → ℕ → Ip4
network_of ip len = record { 0 = ip.0 / 2 ^ (32 - len) * 2 ^ (32 - len) }

-- the same with these bits set: the directed broadcast address of that network (RFC 1122,
-- section 3.2.1.3)
unfoldable pub directed_broadcast : Ip4 → ℕ → Ip4
directed_broadcast ip len = record { 0 = (network_of ip len).0 + (2 ^ (32 - len) - 1) }

-- the first of its four octets
unfoldable pub first_octet : Ip4 → ℕ
first_octet ip = ip.0 / 2 ^ 24

-- whether no host has the address: `this' network, classes D and E, the limited broadcast (RFC 1122,
-- section 3.2.1.3)
abbrev pub is_no_host : Ip4 → Bool
is_no_host ip = (first_octet ip == 0) || nat_lt 223 (first_octet ip)

-- whether it never leaves its host (RFC 1122, section 3.2.1.3)
abbrev pub is_loopback : Ip4 → Bool
is_loopback ip = first_octet ip == 127

-- whether the address lies in the network
unfoldable pub lies_in : Ip4 → Prefix → Bool
lies_in ip to = (network_of ip to.len).0 == to.net.0

-- whether it is the prefix of a network: its length is at most 32, and no bit past it is set
abbrev pub is_network : Prefix → Bool
is_network to = nat_le to.len 32 && lies_in to.net to
