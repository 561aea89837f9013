-- Which interface stands under a name, and which names and units are taken (ifconfig(8), epair(4)).
use Rattle.std.specs.Prelude.{ℕ, zero, suc, ◌+◌, Bool, true, false, ◌&&◌, ◌||◌, not, Option, Some, None}
use Rattle.std.specs.Option.{is_some, is_none}
use Rattle.vn_types.specs.declared.interface.IfName.{IfName}
use Rattle.vn_types.specs.declared.interface.IfName.TheVariants.{Lo0, Epair}
use Rattle.vn_types.specs.declared.interface.IfOf.TheVariants.{Lo0 as OfLo0, Half as OfHalf}
use Rattle.vn_types.specs.declared.interface.Side.TheVariants.{A, B}
use Rattle.vn_rules.specs.Named.{interface_named}
use Rattle.vn_cells.specs.declared.world.World.{World}
use Rattle.vn_cells.specs.world.Names.{Path, If, if_eq, half_name, path_eq, is_under}
use Rattle.vn_cells.specs.world.World.{stack_at, pair_at, ifs_of}

-- the interface that stands at a path under a name
abbrev pub standing : World → Path → IfName → Option If
standing w p name = interface_named half_name name (ifs_of (stack_at w p))

-- whether the pair of a unit is homed at a path
abbrev pub is_homed : World → Path → ℕ → Bool
is_homed w p unit = is_some (pair_at w (p, unit))

-- whether a name is that of a pair which is homed at a path
unfoldable pub is_reserved : World → Path → IfName → Bool
is_reserved w p Lo0 = false
is_reserved w p (Epair unit side) = is_homed w p unit

-- ---- taken by another interface

-- whether there is one, and it is another than what may be there
abbrev pub is_another : Option If → Option If → Bool
is_another None but = false
is_another (Some on) None = true
is_another (Some on) (Some but) = not (if_eq on but)

-- whether it is a half of a pair that is homed there
abbrev pub is_native : Path → Option If → Bool
is_native p None = false
is_native p (Some OfLo0) = false
is_native p (Some (OfHalf h)) = path_eq h.home p

-- the name stands there for another interface, or is that of a pair homed there of which this is
-- no half
unfoldable pub is_taken : World → Path → IfName → Option If → Bool
is_taken w p name but =
    is_another (standing w p name) but || (is_reserved w p name && not (is_native p but))

-- whether an interface may be had at a path: a half whose home is there or above
abbrev pub may_have : Path → Option If → Bool
may_have p None = false
may_have p (Some OfLo0) = false
may_have p (Some (OfHalf h)) = is_under p h.home

-- ---- units

-- the pair is not homed there, and neither of its names stands there
unfoldable pub is_unit_free : World → Path → ℕ → Bool
is_unit_free w p unit =
    not (is_homed w p unit) && is_none (standing w p (Epair unit A))
    && is_none (standing w p (Epair unit B))

-- the number of units that a pair can be made with: 0 to 16,777,215
abbrev pub units : ℕ
units = 16777216

-- the first unit from one on that passes, among so many
unfoldable pub first_unit : ℕ → ℕ → (ℕ → Bool) → Option ℕ
first_unit zero unit test = None
first_unit (suc more) unit test =
    elim (test unit) as (λ _. Option ℕ)
    [ true ↦ Some unit | false ↦ first_unit more (unit + 1) test ]

-- the lowest unit that is free
unfoldable pub lowest_free : World → Path → Option ℕ
lowest_free w p = first_unit units 0 (is_unit_free w p)
