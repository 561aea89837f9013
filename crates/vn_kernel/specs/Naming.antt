-- How halves and pairs that have numbers are called by home and unit.
use Rattle.std.specs.Prelude.{ℕ, ◌+◌, ◌^◌, List, [], Option, Some, None}
use Rattle.std.specs.Option.{option_map}
use Rattle.vn_types.specs.declared.half.Half.{Half}
use Rattle.vn_types.specs.declared.interface.HalfId.{HalfId}
use Rattle.vn_types.specs.Paths.{Path, Key}
use Rattle.vn_epair.specs.Halves.{Pair}
use Rattle.vn_jail.specs.declared.jail.Jail.{Jail}
use Rattle.vn_jail.specs.Tree.{path_at}
use Rattle.vn_vmove.specs.Parts.{pair_at}
use Rattle.vn_kernel.specs.Fields.{Fields}

-- the path of a pair's home; host where there is no pair
abbrev pub home_by : List Jail → Option Pair → Path
home_by jails None = []
home_by jails (Some pair) = path_at jails pair.home

-- the unit of a pair; where there is none, one that no pair has
abbrev pub unit_by : ℕ → Option Pair → ℕ
unit_by number None = 2 ^ 32 + number
unit_by number (Some pair) = pair.unit

-- a half, by its pair
abbrev pub half_by : List Jail → HalfId → Option Pair → Half
half_by jails h pair =
    record { home = home_by jails pair; unit = unit_by h.pair pair; side = h.side }

-- the name of a half; that of no pair has a name that no half of a pair has
unfoldable pub name_of : Fields → HalfId → Half
name_of f h = half_by f.jails h (pair_at f.tables h.pair)

-- a pair's home and unit
abbrev pub key_by : List Jail → Pair → Key
key_by jails pair = (path_at jails pair.home, pair.unit)

-- those of the pair of a number, where there is one
unfoldable pub key_in : Fields → ℕ → Option Key
key_in f number = option_map (key_by f.jails) (pair_at f.tables number)
