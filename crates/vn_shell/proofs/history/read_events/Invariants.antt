use Rattle.std.proofs.Common.{◌≡◌, ◌+◌, ◌≤◌, length}
use Rattle.vn_shell.specs.Histories.{events_from}
use Rattle.vn_shell.specs.Words.{lines_of}
use Rattle.vn_shell.proofs.Histories.{events_with}
use Rattle.vn_shell.proofs.history.read_events.Given as goal

abbrev pub invariant-loop-line : goal.invariant-loop-line
invariant-loop-line l = record {
  so_far : events_from 2 (lines_of l.text) ≡ events_with l.history (events_from (l.number + 1) (lines_of l.left));
  few : l.number + length l.left ≤ length l.text + 1;
}

abbrev pub decreases-loop-line : goal.decreases-loop-line
decreases-loop-line l = length l.left
