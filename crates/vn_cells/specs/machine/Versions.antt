-- The versions of listings: one is retired where a table has other lines than before or its stack is destroyed, and is
-- kept while some reader that was open then stays open.
use Rattle.std.specs.Prelude.{ℕ, ◌+◌, Bool, true, false, ◌&&◌, not, List, [], ◌∷◌, map, length, filter, Option, Some, None}
use Rattle.std.specs.List.{flat_map}
use Rattle.std.specs.Option.{is_some}
use Rattle.std.specs.Map.{keys_of}
use Rattle.std.specs.Str.{bytes_eq}
use Rattle.vn_cells.specs.declared.event.Event.{Event}
use Rattle.vn_cells.specs.declared.listing.Table.{Table}
use Rattle.vn_cells.specs.declared.listing.Table.TheVariants.{If, Route, Arp}
use Rattle.vn_cells.specs.declared.world.Reader.{Reader}
use Rattle.vn_cells.specs.declared.world.World.{World}
use Rattle.vn_cells.specs.world.Names.{Path}
use Rattle.vn_cells.specs.world.World.{stack_at}
use Rattle.vn_cells.specs.machine.Local.{lines_at}
use Rattle.vn_cells.specs.machine.Readers.{reader_of}
use Rattle.vn_cells.specs.machine.Step.{opening, step}

-- ---- retired

-- the tables of a stack
abbrev pub tables : List Table
tables = If ∷ Route ∷ Arp ∷ []

-- whether two listings have the same lines
abbrev pub lines_eq : List (List ℕ) → List (List ℕ) → Bool
lines_eq [] [] = true
lines_eq (a ∷ old) (b ∷ new) = bytes_eq a b && lines_eq old new
lines_eq _ _ = false

-- whether a version is retired, by the lines before and after
abbrev pub is_retired : Option (List (List ℕ)) → Option (List (List ℕ)) → Bool
is_retired None after = false
is_retired (Some before) None = true
is_retired (Some before) (Some after) = not (lines_eq before after)

-- the tables of a path whose version is retired between two worlds
abbrev pub retired_at : World → World → Path → List Table
retired_at old new p = filter (λ table. is_retired (lines_at old p table) (lines_at new p table)) tables

-- how many versions an event retires
unfoldable pub retired : World → Event → ℕ
retired w event = length (flat_map (retired_at w (step w event)) (keys_of w.stacks))

-- ---- kept

-- a reader by its path and lane
abbrev pub lane_at : Path → Reader → Path × ℕ
lane_at p reader = (p, reader.lane)

-- the open readers of a path
abbrev pub readers_at : World → Path → List (Path × ℕ)
readers_at w p = map (lane_at p) (stack_at w p).readers

-- the open readers
unfoldable pub readers_in : World → List (Path × ℕ)
readers_in w = flat_map (readers_at w) (keys_of w.stacks)

-- how many readers are open
abbrev pub open_readers : World → ℕ
open_readers w = length (readers_in w)

-- whether a lane has a reader at a path
abbrev pub has_reader : World → Path × ℕ → Bool
has_reader w (p, lane) = is_some (reader_of lane (stack_at w p).readers)

-- what some events leave
pub record Left : Type 0 where
  -- the readers that were open before each of them and are so after the last, by the same Open then
  pub readers : List (Path × ℕ)
  -- how many of the versions that they retired are kept
  pub versions : ℕ

-- a version that is retired is kept where some reader stays open from then on
abbrev pub kept_if_any : List (Path × ℕ) → ℕ → ℕ
kept_if_any [] versions = 0
kept_if_any (reader ∷ readers) versions = versions

-- what events leave that begin in a world
unfoldable pub left_by : World → List Event → Left
left_by w [] = record { readers = readers_in w; versions = 0 }
left_by w (event ∷ events) =
    let after = left_by (step w event) events in
    let open_all_along = filter (has_reader w) after.readers in
    record {
      readers = open_all_along;
      versions = kept_if_any open_all_along (retired w event) + after.versions;
    }

-- how many versions are kept after a history
abbrev pub kept : List Event → ℕ
kept events = (left_by opening events).versions
