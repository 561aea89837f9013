-- Events of a history: the words of a line.
use Rattle.std.specs.Prelude.{ℕ, ◌+◌, Bool, nat_le, List, [], ◌∷◌, length, codes, if◌then◌else◌, Option, Some, None}
use Rattle.std.specs.Option.{option_map}
use Rattle.std.specs.Str.{bytes_eq}
use Rattle.vn_types.specs.HalfWords.{half_of}
use Rattle.vn_types.specs.Paths.{Path}
use Rattle.vn_types.specs.PathWords.{path_of}
use Rattle.vn_types.specs.Steps.{◌>>=◌}
use Rattle.vn_cells.specs.declared.command.Command.{Command}
use Rattle.vn_cells.specs.declared.event.Event.{Event}
use Rattle.vn_cells.specs.declared.event.Event.TheVariants as event
use Rattle.vn_shell.specs.declared.lines.TheConstants.{MOST_LABELS}
use Rattle.vn_shell.specs.Commands.{command_of, named_depth}
use Rattle.vn_shell.specs.Requests.{table_of}
use Rattle.vn_shell.specs.Words.{at_end, lane_of, of_one, such_that, wait_of}

-- whether the path that a command names has at most 8 labels, seen from host
abbrev pub has_room : Path → Command → Bool
has_room path command = nat_le (length path + named_depth command) MOST_LABELS

-- a command at a path
abbrev pub run_of : ℕ → Path → List (List ℕ) → Option Event
run_of lane path words = option_map (event.Cmd lane path) (command_of words >>= such_that (has_room path))

-- what a lane does at a path: `cmd` and a command, `open` and a table, `next` or `close`
unfoldable pub done_of : List ℕ → ℕ → Path → List (List ℕ) → Option Event
done_of verb lane path words =
    if bytes_eq verb (codes "cmd") then run_of lane path words
    else if bytes_eq verb (codes "open") then of_one table_of (event.Open lane path) words
    else if bytes_eq verb (codes "next") then at_end words (Some (event.Next lane path))
    else if bytes_eq verb (codes "close") then at_end words (Some (event.Close lane path))
    else None

-- a lane and a path, and what the lane does there
unfoldable pub lane_event_of : List ℕ → List (List ℕ) → Option Event
lane_event_of verb (lane ∷ path ∷ words) = do
  lane ← lane_of lane
  path ← path_of path
  done_of verb lane path words
lane_event_of verb _ = None

-- `tick N`, `deliver HALF`, `loop PATH`, `fire PATH`, or an event of a lane
unfoldable pub happening_of : List ℕ → List (List ℕ) → Option Event
happening_of verb words =
    if bytes_eq verb (codes "tick") then of_one wait_of event.Tick words
    else if bytes_eq verb (codes "deliver") then of_one half_of event.Deliver words
    else if bytes_eq verb (codes "loop") then of_one path_of event.LoopDeliver words
    else if bytes_eq verb (codes "fire") then of_one path_of event.Fire words
    else lane_event_of verb words

-- what the words mean
unfoldable pub event_of : List (List ℕ) → Option Event
event_of [] = None
event_of (verb ∷ words) = happening_of verb words
