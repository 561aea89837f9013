-- How the versions that are kept are counted along a history, one event after another.
use Rattle.std.specs.Prelude.{◌≡◌, ℕ, ◌+◌, true, false, List}
use Rattle.vn_cells.specs.declared.event.Event.{Event}
use Rattle.vn_cells.specs.declared.world.World.{World}
use Rattle.vn_cells.specs.world.Names.{Path}
use Rattle.vn_cells.specs.machine.Step.{opening, run, step}
use Rattle.vn_cells.specs.machine.Versions.{has_reader, retired}
use Rattle.vn_laws.specs.Versions.{retired_by, retired_before}

-- a count is ahead of what it was at the Open of each open reader, `since_of` it, by the versions retired since
abbrev pub IsCounted : List Event → ℕ → (Path × ℕ → ℕ) → Type 0
IsCounted events count since_of = (reader : Path × ℕ) → has_reader (run events) reader ≡ true
    → count + retired_before reader opening events ≡ since_of reader + retired_by opening events

-- an event counts on, from `count` to `next`
pub record CountsOn (w : World) (event : Event) (count next : ℕ) (before after : Path × ℕ → ℕ) : Type 0 where
  -- where some reader is open, the versions that the event retires are added; else the count may be any
  pub added : (reader : Path × ℕ) → has_reader w reader ≡ true → next ≡ count + retired w event
  -- a reader that stays open keeps its number
  pub stays : (reader : Path × ℕ) → has_reader w reader ≡ true → has_reader (step w event) reader ≡ true
      → after reader ≡ before reader
  -- one that is opened gets the count
  pub opened : (reader : Path × ℕ) → has_reader w reader ≡ false → has_reader (step w event) reader ≡ true
      → after reader ≡ next
