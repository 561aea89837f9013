use Rattle.std.proofs.Common.{take}
use Rattle.std.specs.List.{flat_map}
use Rattle.vn_cells.specs.texts.Text.{event_text, line}
use Rattle.vn_text.proofs.Putting.{IsPut}
use Rattle.vn_text.proofs.history.put_events.Given as goal

abbrev pub invariant-loop-event : goal.invariant-loop-event
invariant-loop-event l = IsPut l.fn.out.items l.out.items (flat_map (λ e. line (event_text e)) (take l.event-index l.events))
