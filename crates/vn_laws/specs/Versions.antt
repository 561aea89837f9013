-- How many versions are kept, by what was retired before each open reader was opened.
use Rattle.std.specs.Prelude.{ℕ, ◌+◌, ◌-◌, Bool, true, false, ◌&&◌, List, [], ◌∷◌, map, Option, Some, None, if◌then◌else◌}
use Rattle.vn_rules.specs.Timers.{lesser}
use Rattle.vn_cells.specs.declared.event.Event.{Event}
use Rattle.vn_cells.specs.declared.event.Event.TheVariants as event
use Rattle.vn_cells.specs.declared.world.World.{World}
use Rattle.vn_cells.specs.world.Names.{Path}
use Rattle.vn_cells.specs.machine.Step.{step, run_from}
use Rattle.vn_cells.specs.machine.Versions.{has_reader, readers_in, retired}

-- whether an event is a command, which opens and closes no reader
unfoldable pub is_command : Event → Bool
is_command (event.Cmd lane path command) = true
is_command _ = false

-- whether a reader is open before each of the events; where it is so after the last too, it is by the same Open
unfoldable pub stays_open : Path × ℕ → World → List Event → Bool
stays_open reader w [] = true
stays_open reader w (event ∷ events) = has_reader w reader && stays_open reader (step w event) events

-- how many versions the events retire
unfoldable pub retired_by : World → List Event → ℕ
retired_by w [] = 0
retired_by w (event ∷ events) = retired w event + retired_by (step w event) events

-- how many of them before a reader was opened that is open after the last
unfoldable pub retired_before : Path × ℕ → World → List Event → ℕ
retired_before reader w [] = 0
retired_before reader w (event ∷ events) =
    if stays_open reader w (event ∷ events) then 0
    else retired w event + retired_before reader (step w event) events

-- the least of some numbers
abbrev pub least_of : List ℕ → Option ℕ
least_of [] = None
least_of (n ∷ ns) = lesser (Some n) (least_of ns)

-- all that were retired since the first reader was opened that is open at the end, or none
abbrev pub since : ℕ → Option ℕ → ℕ
since all None = 0
since all (Some before) = all - before

-- the versions that are kept, counted so
abbrev pub kept_since : World → List Event → ℕ
kept_since w events =
    since (retired_by w events)
    (least_of (map (λ reader. retired_before reader w events) (readers_in (run_from w events))))
