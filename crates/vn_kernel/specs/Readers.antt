-- The open readers of a path as the kernel keeps them, each with the count of retired versions at its opening.
use Rattle.std.specs.Prelude.{ℕ, Bool, ◌==◌, not, List, ◌∷◌, [], ◌++◌, drop, map, filter, find, slice_get, Option, if◌then◌else◌}
use Rattle.std.specs.Option.{option_map}
use Rattle.vn_cells.specs.declared.world.Reader.{Reader}

-- a lane's open reader
pub record OpenReader : Type 0 where
  -- the lane
  pub lane : ℕ
  -- the lines that are left to it
  pub lines : List (List ℕ)
  -- how many versions were retired when it was opened
  pub since : ℕ

-- the reader that the machine has
abbrev pub reader_by : OpenReader → Reader
reader_by r = record { lane = r.lane; lines = r.lines }

-- whether it is the lane's
abbrev pub is_of : ℕ → OpenReader → Bool
is_of lane r = r.lane == lane

-- the reader of a lane
unfoldable pub of_lane : ℕ → List OpenReader → Option OpenReader
of_lane lane readers = find (is_of lane) readers

-- the next line of a lane's reader, none at its end
abbrev pub next_line : ℕ → List OpenReader → Option (Option (List ℕ))
next_line lane readers = option_map (λ (r : OpenReader). slice_get r.lines 0) (of_lane lane readers)

-- without its first line, where it is the lane's
unfoldable pub read_on : ℕ → OpenReader → OpenReader
read_on lane r = if is_of lane r then record r { lines = drop 1 r.lines } else r

-- without the lane's
abbrev pub without : ℕ → List OpenReader → List OpenReader
without lane readers = filter (λ r. not (is_of lane r)) readers
