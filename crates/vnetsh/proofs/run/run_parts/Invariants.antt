use Rattle.std.proofs.Common.{◌≡◌, true, length}
use Rattle.std.specs.List.{list_all}
use Rattle.std.specs.Vec.Iter.{into_iter_items, into_iter_len}
use Rattle.vn_cells.specs.machine.Events.{is_valid_part}
use Rattle.vn_cells.specs.texts.Schedule.{parts_events}
use Rattle.vn_shell.specs.Readings.{is_built_part}
use Rattle.vnetsh.specs.Runs.{StandsForHistory}
use Rattle.vnetsh.proofs.Runs.{AreLeft}
use Rattle.vnetsh.proofs.run.run_parts.Given as goal

abbrev pub invariant-loop-part : goal.invariant-loop-part
invariant-loop-part l = record {
  left : AreLeft parts_events l.fn.kernel.events l.fn.parts l.kernel.events (into_iter_items l.part-iterator);
  valid : list_all is_valid_part (into_iter_items l.part-iterator) ≡ true;
  built : list_all is_built_part (into_iter_items l.part-iterator) ≡ true;
  standing : StandsForHistory l.kernel;
  counted : into_iter_len l.part-iterator ≡ length (into_iter_items l.part-iterator);
}
