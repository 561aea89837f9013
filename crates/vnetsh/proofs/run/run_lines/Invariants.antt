use Rattle.std.proofs.Common.{◌≡◌, true, length}
use Rattle.std.specs.List.{list_all}
use Rattle.std.specs.Vec.Iter.{into_iter_items, into_iter_len}
use Rattle.vn_cells.specs.machine.Events.{is_valid_line}
use Rattle.vn_cells.specs.texts.Schedule.{lines_events}
use Rattle.vn_shell.specs.Readings.{is_built_lane}
use Rattle.vnetsh.specs.Runs.{StandsForHistory}
use Rattle.vnetsh.proofs.Runs.{AreLeft}
use Rattle.vnetsh.proofs.run.run_lines.Given as goal

abbrev pub invariant-loop-line : goal.invariant-loop-line
invariant-loop-line l = record {
  left : AreLeft lines_events l.fn.kernel.events l.fn.lines l.kernel.events (into_iter_items l.line-iterator);
  valid : list_all is_valid_line (into_iter_items l.line-iterator) ≡ true;
  built : list_all is_built_lane (into_iter_items l.line-iterator) ≡ true;
  standing : StandsForHistory l.kernel;
  counted : into_iter_len l.line-iterator ≡ length (into_iter_items l.line-iterator);
}
