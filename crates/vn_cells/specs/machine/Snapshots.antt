-- What the next line of a reader is: that of its table as it stood where the reader was opened.
use Rattle.std.specs.Prelude.{◌≡◌, ℕ, Bool, false, ◌==◌, ◌&&◌, List, [], ◌∷◌, ◌++◌, drop, count_by, Some, None}
use Rattle.std.specs.List.{list_any}
use Rattle.vn_rules.specs.declared.outcome.Outcome.TheVariants.{Value}
use Rattle.vn_cells.specs.declared.event.Event.{Event}
use Rattle.vn_cells.specs.declared.event.Event.TheVariants as event
use Rattle.vn_cells.specs.declared.listing.Table.{Table}
use Rattle.vn_cells.specs.declared.transcript.What.TheVariants as what
use Rattle.vn_cells.specs.declared.world.World.{World}
use Rattle.vn_cells.specs.world.Names.{Path, path_eq}
use Rattle.vn_cells.specs.world.World.{stack_at, entry_of}
use Rattle.vn_cells.specs.machine.Local.{lines_at, open_refusal}
use Rattle.vn_cells.specs.machine.Readers.{line_or_end}
use Rattle.vn_cells.specs.machine.Step.{run, step}

-- whether an event is a Next of the lane at the path
unfoldable pub is_next : ℕ → Path → Event → Bool
is_next lane p (event.Next own path) = (own == lane) && path_eq p path
is_next lane p _ = false

-- whether an event is a Close of the lane at the path
unfoldable pub is_close : ℕ → Path → Event → Bool
is_close lane p (event.Close own path) = (own == lane) && path_eq p path
is_close lane p _ = false

-- the line at a place, counted from 0; `end` past the last
abbrev pub line_at : ℕ → List (List ℕ) → List ℕ
line_at n lines = line_or_end (drop n lines)

-- the lane's Next adds an entry with that line to the transcript of the path
abbrev pub GivesLine : World → ℕ → Path → List ℕ → Type 0
GivesLine w lane p line =
    (stack_at (step w (event.Next lane p)) p).entries
    ≡ (stack_at w p).entries ++ entry_of w.clock (what.Next lane (Value line)) ∷ []

-- each Next of a reader that was opened in the history, with no Close in between, gives the line of the listing that
-- stood before its Open, in the order of the lines
abbrev pub IsSnapshot : List Event → Type 0
IsSnapshot events =
    (before between after : List Event) (lane : ℕ) (p : Path) (table : Table) (lines : List (List ℕ))
    → events ≡ before ++ event.Open lane p table ∷ between ++ event.Next lane p ∷ after
    → open_refusal (run before) lane p table ≡ None → lines_at (run before) p table ≡ Some lines
    → list_any (is_close lane p) between ≡ false
    → GivesLine (run (before ++ event.Open lane p table ∷ between)) lane p
    (line_at (count_by (is_next lane p) between) lines)
