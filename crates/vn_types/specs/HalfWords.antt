-- Halves of epairs as a user writes them.
use Rattle.std.specs.Prelude.{ℕ, ◌==◌, ◌++◌, List, [], ◌∷◌, Option, Some, None}
use Rattle.std.specs.List.{slice_split}
use Rattle.vn_types.specs.Octets.{slash}
use Rattle.vn_types.specs.declared.half.Half.{Half}
use Rattle.vn_types.specs.Paths.{path_text}
use Rattle.vn_types.specs.PathWords.{path_of}
use Rattle.vn_types.specs.InterfaceWords.{unit_side_of, unit_side_text}
use Rattle.vn_types.specs.Steps.{◌>>=◌}

-- a home, and a unit with a side
unfoldable pub half_parts : List ℕ → List ℕ → Option Half
half_parts home unit = do
  unit ← unit_side_of unit
  home ← path_of home
  Some (record { home = home; unit = unit.0; side = unit.1 })

-- two pieces, a home and a unit with a side
unfoldable pub half_pieces : List (List ℕ) → Option Half
half_pieces (home ∷ unit ∷ []) = half_parts home unit
half_pieces _ = None

-- a path, `/`, a unit and a side
unfoldable pub half_of : List ℕ → Option Half
half_of text = half_pieces (slice_split (λ c. c == slash) text)

-- the home, `/`, the unit and the side
unfoldable pub half_text : Half → List ℕ
half_text half = path_text half.home ++ slash ∷ unit_side_text half.unit half.side
