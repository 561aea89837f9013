-- A hardware address as the value of a field of 48 bits.
use Rattle.std.specs.Prelude.{◌≡◌, ℕ, length}
use Rattle.byteorder.specs.Endian.{big_bytes, big_number}
use Rattle.vn_types.specs.Fields.{AreOctets}
use Rattle.vn_types.specs.declared.address.Mac.{Mac}

-- how many octets an address has
abbrev pub mac_size : ℕ
mac_size = 6

-- an address of six octets
pub record IsMac (mac : Mac) : Type 0 where
  pub len : length mac.0 ≡ mac_size
  pub octets : AreOctets mac.0

-- the number that an address's octets spell
unfoldable pub number_of : Mac → ℕ
number_of mac = big_number mac_size mac.0

-- the address whose octets spell a number
unfoldable pub mac_of : ℕ → Mac
mac_of number = record { 0 = big_bytes mac_size number }
