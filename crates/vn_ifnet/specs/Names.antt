-- Interfaces and names as numbers, by which they are looked up.
use Rattle.std.specs.Prelude.{ℕ, ◌+◌, ◌*◌}
use Rattle.vn_types.specs.declared.interface.HalfId.{HalfId}
use Rattle.vn_types.specs.declared.interface.IfName.{IfName}
use Rattle.vn_types.specs.declared.interface.IfName.TheVariants as ifname
use Rattle.vn_types.specs.declared.interface.IfOf.{IfOf}
use Rattle.vn_types.specs.declared.interface.IfOf.TheVariants.{Lo0, Half}
use Rattle.vn_types.specs.declared.interface.Side.{Side}
use Rattle.vn_types.specs.declared.interface.Side.TheVariants.{A, B}

-- 1 and 2, so that 0 is lo0
abbrev pub side_number : Side → ℕ
side_number A = 1
side_number B = 2

-- the number of a name
abbrev pub name_number : IfName → ℕ
name_number ifname.Lo0 = 0
name_number (ifname.Epair unit side) = 2 * unit + side_number side

-- the number of an interface
abbrev pub if_number : IfOf HalfId → ℕ
if_number Lo0 = 0
if_number (Half h) = 2 * h.pair + side_number h.side
