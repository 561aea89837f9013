-- Where the lines of a phase are done in script order, a script asks for one history.
use Rattle.std.proofs.Common.{◌≡◌, List, [], ◌∷◌, ◌++◌, refl, ap, ap₂, ◌∙◌}
use Rattle.vn_cells.specs.declared.event.Event.{Event}
use Rattle.vn_cells.specs.declared.script.Part.{Part}
use Rattle.vn_cells.specs.declared.world.World.{World}
use Rattle.vn_cells.specs.machine.Step.{run_from}
use Rattle.vn_cells.specs.texts.Schedule.{InOrder, IsScheduleFrom, part_events, parts_events}

pub is_serial : (w : World) (parts : List Part) (events : List Event) → IsScheduleFrom InOrder w parts events → events ≡ parts_events w parts
unfolding parts_events
is_serial w [] events h = h
is_serial w (part ∷ parts) events (segment, rest, whole, own, more) =
    whole ∙ ap₂ ◌++◌ own (is_serial (run_from w segment) parts rest more ∙ ap (λ s. parts_events (run_from w s) parts) own)

pub serial_is : (w : World) (parts : List Part) (events : List Event) → events ≡ parts_events w parts → IsScheduleFrom InOrder w parts events
unfolding parts_events
serial_is w [] events e = e
serial_is w (part ∷ parts) events e =
    (part_events w part, parts_events (run_from w (part_events w part)) parts, e, refl, serial_is (run_from w (part_events w part)) parts _ refl)
