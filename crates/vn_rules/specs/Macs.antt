-- The hardware addresses that the halves of a pair are made with (epair(4)).
use Rattle.std.specs.Prelude.{ℕ, ◌/◌, ◌%◌, [], ◌∷◌}
use Rattle.vn_types.specs.declared.address.Mac.{Mac}
use Rattle.vn_types.specs.declared.interface.Side.{Side}
use Rattle.vn_types.specs.declared.interface.Side.TheVariants.{A, B}

-- the last octet
abbrev pub side_octet : Side → ℕ
side_octet A = 10
side_octet B = 11

-- 02:00, the unit in three octets, and :0a or :0b
abbrev pub first_mac : ℕ → Side → Mac
first_mac unit side = record {
  0 = 2 ∷ 0 ∷ unit / 65536 % 256 ∷ unit / 256 % 256 ∷ unit % 256 ∷ side_octet side ∷ [];
}
