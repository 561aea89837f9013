-- Names of interfaces as a user writes them.
use Rattle.std.specs.Prelude.{ℕ, ◌-◌, ◌==◌, ◌++◌, List, [], ◌∷◌, length, take, drop, slice_index, Option, Some, None, if◌then◌else◌, codes, decimal}
use Rattle.std.specs.Option.{option_map}
use Rattle.std.specs.Str.{bytes_eq}
use Rattle.vn_types.specs.Octets.{letter_a, letter_b}
use Rattle.vn_types.specs.declared.interface.Side.{Side}
use Rattle.vn_types.specs.declared.interface.Side.TheVariants.{A, B}
use Rattle.vn_types.specs.declared.interface.IfName.{IfName}
use Rattle.vn_types.specs.declared.interface.IfName.TheVariants.{Lo0, Epair}
use Rattle.vn_types.specs.NumberWords.{number_up_to}
use Rattle.vn_types.specs.Steps.{◌>>=◌}

-- `a` or `b`
unfoldable pub side_of : ℕ → Option Side
side_of c = if c == letter_a then Some A else (if c == letter_b then Some B else None)

-- a unit below 2^32, and a side
unfoldable pub unit_side_parts : List ℕ → ℕ → Option (ℕ × Side)
unit_side_parts unit side = do
  side ← side_of side
  unit ← number_up_to 4294967295 unit
  Some (unit, side)

-- all octets but the last, and the last
unfoldable pub unit_side_of : List ℕ → Option (ℕ × Side)
unit_side_of text =
    unit_side_parts (take (length text - 1) text) (slice_index text (length text - 1))

-- `epair`, a unit and a side
unfoldable pub epair_of : List ℕ → Option IfName
epair_of text =
    if bytes_eq (take 5 text) (codes "epair")
    then option_map (λ u. Epair u.0 u.1) (unit_side_of (drop 5 text))
    else None

-- `lo0`, or the half of an epair
unfoldable pub ifname_of : List ℕ → Option IfName
ifname_of text = if bytes_eq text (codes "lo0") then Some Lo0 else epair_of text

-- `a` or `b`
abbrev pub side_letter : Side → ℕ
side_letter A = letter_a
side_letter B = letter_b

-- the unit in decimal digits, and the side
unfoldable pub unit_side_text : ℕ → Side → List ℕ
unit_side_text unit side = decimal unit ++ side_letter side ∷ []

-- `lo0`, or `epair`, the unit and the side
unfoldable pub ifname_text : IfName → List ℕ
ifname_text Lo0 = codes "lo0"
ifname_text (Epair unit side) = codes "epair" ++ unit_side_text unit side
