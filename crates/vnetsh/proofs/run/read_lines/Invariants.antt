use Rattle.std.proofs.Common.{◌≡◌, ◌++◌, ◌≤◌, length}
use Rattle.std.specs.Prelude.{replicate}
use Rattle.vn_cells.specs.declared.event.Event.TheVariants as event
use Rattle.vn_cells.specs.declared.event.TheConstants.{EVENTS_MAX}
use Rattle.vnetsh.specs.Runs.{StandsForHistory}
use Rattle.vnetsh.proofs.run.read_lines.Given as goal

abbrev pub invariant-loop : goal.invariant-loop
invariant-loop l = record {
  so_far : l.kernel.events ≡ l.fn.kernel.events ++ replicate l.counter (event.Next l.fn.lane l.fn.path);
  standing : StandsForHistory l.kernel;
  room : length l.kernel.events ≤ EVENTS_MAX;
}
