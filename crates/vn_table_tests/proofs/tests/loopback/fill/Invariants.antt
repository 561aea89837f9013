use Rattle.std.proofs.Common.{IsSome, ◌≤◌}
use Rattle.vn_types.specs.PerStack.{ChangesOnly}
use Rattle.vn_loop.specs.Queues.{of}
use Rattle.vn_table_tests.proofs.tests.loopback.fill.Given as goal

abbrev pub invariant-loop-turn : goal.invariant-loop-turn
invariant-loop-turn l = record {
  made : IsSome (of l.loops l.sid.0);
  others : ChangesOnly l.sid.0 (of l.initial.loops) (of l.loops);
  few : l.queued ≤ l._turn;
}
