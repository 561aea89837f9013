-- The bounds of what commands and events carry.
use Rattle.std.specs.Prelude.{ℕ, ◌^◌, Bool, true, ◌&&◌, ◌==◌, nat_le, nat_lt, length, Option, Some, None}
use Rattle.std.specs.List.{list_all}
use Rattle.vn_types.specs.declared.address.Ip4.{Ip4}
use Rattle.vn_types.specs.declared.address.Mac.{Mac}
use Rattle.vn_types.specs.declared.address.Prefix.{Prefix}
use Rattle.vn_types.specs.declared.half.Half.{Half}
use Rattle.vn_types.specs.declared.interface.IfName.{IfName}
use Rattle.vn_types.specs.declared.interface.IfName.TheVariants as ifname
use Rattle.vn_rules.specs.Networks.{is_network}
use Rattle.vn_cells.specs.world.Names.{is_path}

-- an octet
abbrev pub is_octet : ℕ → Bool
is_octet n = nat_lt n 256

-- a unit of an epair
abbrev pub is_unit : ℕ → Bool
is_unit n = nat_lt n (2 ^ 32)

-- a port (RFC 768)
abbrev pub is_port : ℕ → Bool
is_port n = nat_lt n (2 ^ 16)

-- a value of a variable
abbrev pub is_value : ℕ → Bool
is_value n = nat_lt n (2 ^ 64)

-- a time to live that a datagram may leave with (RFC 791, section 3.1)
abbrev pub is_ttl : ℕ → Bool
is_ttl n = nat_le 1 n && is_octet n

-- the milliseconds that a clock moves on at once: up to a day
abbrev pub is_wait : ℕ → Bool
is_wait n = nat_le 1 n && nat_le n 86400000

-- an address of 32 bits
abbrev pub is_ip : Ip4 → Bool
is_ip ip = nat_lt ip.0 (2 ^ 32)

-- six octets
abbrev pub is_mac : Mac → Bool
is_mac mac = (length mac.0 == 6) && list_all is_octet mac.0

-- the name of an interface
abbrev pub is_ifname : IfName → Bool
is_ifname ifname.Lo0 = true
is_ifname (ifname.Epair unit side) = is_unit unit

-- a half by its home and its unit
abbrev pub is_half : Half → Bool
is_half half = is_path half.home && is_unit half.unit

-- the prefix of a network, by an address
abbrev pub is_prefix : Prefix → Bool
is_prefix to = is_ip to.net && is_network to

-- a test of what may be left out
abbrev pub passes : {T : Type 0} → (T → Bool) → Option T → Bool
passes test None = true
passes test (Some x) = test x
