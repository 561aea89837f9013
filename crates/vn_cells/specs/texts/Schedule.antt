-- Which history a script asks for, line by line and part by part.
use Rattle.std.specs.Prelude.{◌≡◌, ℕ, List, [], ◌∷◌, ◌++◌, length, replicate, Option, Some, None}
use Rattle.vn_types.specs.declared.errno.Errno.{Errno}
use Rattle.vn_cells.specs.declared.event.Event.{Event}
use Rattle.vn_cells.specs.declared.event.Event.TheVariants as event
use Rattle.vn_cells.specs.declared.listing.Table.{Table}
use Rattle.vn_cells.specs.declared.script.LaneLine.{LaneLine}
use Rattle.vn_cells.specs.declared.script.Line.{Line}
use Rattle.vn_cells.specs.declared.script.Line.TheVariants as line
use Rattle.vn_cells.specs.declared.script.Part.{Part}
use Rattle.vn_cells.specs.declared.script.Part.TheVariants.{Phase, Settle, Sleep}
use Rattle.vn_cells.specs.declared.script.Script.{Script}
use Rattle.vn_cells.specs.declared.world.World.{World}
use Rattle.vn_cells.specs.world.Names.{Path}
use Rattle.vn_cells.specs.machine.Deliveries.{settle_events}
use Rattle.vn_cells.specs.machine.Local.{lines_at, open_refusal}
use Rattle.vn_cells.specs.machine.Step.{opening, run_from}
use Rattle.vn_cells.specs.machine.Timing.{sleep_events}

-- a listing: a reader is opened, gives each line, and is closed; where it may not be opened, no more
unfoldable pub listing_events : World → ℕ → Path → Table → List Event
listing_events w lane path table = event.Open lane path table ∷ read_whole (open_refusal w lane path table) (lines_at w path table)
  where
    read_whole : Option Errno → Option (List (List ℕ)) → List Event
    read_whole None (Some lines) =
        replicate (length lines) (event.Next lane path) ++ event.Close lane path ∷ []
    read_whole refusal lines = []

-- the events of a line, in the world where it begins
unfoldable pub line_events : World → LaneLine → List Event
line_events w asked = by asked.line
  where
    by : Line → List Event
    by (line.Cmd command) = event.Cmd asked.lane asked.path command ∷ []
    by (line.List table) = listing_events w asked.lane asked.path table
    by (line.Open table) = event.Open asked.lane asked.path table ∷ []
    by line.Next = event.Next asked.lane asked.path ∷ []
    by line.Close = event.Close asked.lane asked.path ∷ []
    by line.Watch = []

-- the events of lines, one line after another
unfoldable pub lines_events : World → List LaneLine → List Event
lines_events w [] = []
lines_events w (asked ∷ lines) =
    let events = line_events w asked in events ++ lines_events (run_from w events) lines

-- the events of a part, in the world where it begins
unfoldable pub part_events : World → Part → List Event
part_events w (Phase lines) = lines_events w lines
part_events w Settle = settle_events w
part_events w (Sleep n) = sleep_events n w

-- the events of parts, one part after another
unfoldable pub parts_events : World → List Part → List Event
parts_events w [] = []
parts_events w (part ∷ parts) =
    let events = part_events w part in events ++ parts_events (run_from w events) parts

-- the one history of the script whose lines are done in script order
abbrev pub serial_run : Script → List Event
serial_run script = parts_events opening script.parts

-- how the lines of a phase are done: in script order
pub data Mode : Type 0 where
  InOrder : Mode

-- whether these are events of a part, in the world where it begins
abbrev pub IsSegment : Mode → World → Part → List Event → Type 0
IsSegment InOrder w part events = events ≡ part_events w part

-- whether these are events of parts, a segment for each part
abbrev pub IsScheduleFrom : Mode → World → List Part → List Event → Type 0
IsScheduleFrom mode w [] events = events ≡ []
IsScheduleFrom mode w (part ∷ parts) events =
    (segment rest : List Event) × (events ≡ segment ++ rest) × IsSegment mode w part segment
    × IsScheduleFrom mode (run_from w segment) parts rest

-- whether a history is one that the script asks for
abbrev pub IsSchedule : Mode → Script → List Event → Type 0
IsSchedule mode script events = IsScheduleFrom mode opening script.parts events
