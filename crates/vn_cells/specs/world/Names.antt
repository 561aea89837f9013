-- Names of halves and of pairs, and the tests that tell them apart.
use Rattle.std.specs.Prelude.{Bool, ◌&&◌, ◌==◌, not, List, Option, Some, None}
use Rattle.std.specs.List.{list_any, filter_map}
use Rattle.vn_types.specs.declared.half.Half.{Half}
use Rattle.vn_types.specs.declared.interface.IfOf.{IfOf}
use Rattle.vn_types.specs.declared.interface.IfOf.TheVariants.{Lo0, Half as OfHalf}
use Rattle.vn_types.specs.declared.interface.IfName.{IfName}
use Rattle.vn_types.specs.declared.interface.IfName.TheVariants.{Epair}
use Rattle.vn_types.specs.declared.interface.Side.{Side}
use Rattle.vn_types.specs.Interfaces.{side_eq, if_same}
pub use Rattle.vn_types.specs.Paths.{Path, Key, first_or_host, parent}
unfoldable pub use Rattle.vn_types.specs.Paths.{path_eq, key_eq, is_host, is_under, joined, path_cmp, is_path, key_cmp, above}

-- whether a path is under another, and is not that one
abbrev pub is_below : Path → Path → Bool
is_below q p = is_under q p && not (path_eq p q)

-- whether two halves are one
unfoldable pub half_eq : Half → Half → Bool
half_eq g h = path_eq g.home h.home && (g.unit == h.unit) && side_eq g.side h.side

-- an interface as the machine names it
abbrev pub If : Type 0
If = IfOf Half

-- whether two interfaces are one
abbrev pub if_eq : If → If → Bool
if_eq = if_same half_eq

-- the name of a half where it stands
abbrev pub half_name : Half → IfName
half_name h = Epair h.unit h.side

-- the pair of a half
abbrev pub key_of : Half → Key
key_of half = (half.home, half.unit)

-- the half, where it is no lo0
abbrev pub half_of : If → Option Half
half_of Lo0 = None
half_of (OfHalf h) = Some h

-- the halves among some interfaces
abbrev pub halves_of : List If → List Half
halves_of ifs = filter_map half_of ifs

-- the half of that side of a pair
abbrev pub half_on : Side → Key → Half
half_on side k = record { home = k.0; unit = k.1; side = side }

-- whether the half is among some halves
abbrev pub has_half : List Half → Half → Bool
has_half halves h = list_any (half_eq h) halves
