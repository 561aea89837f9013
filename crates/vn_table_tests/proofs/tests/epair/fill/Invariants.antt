use Rattle.std.proofs.Common.{IsSome, ◌≤◌}
use Rattle.vn_epair.specs.Pairs.{of}
use Rattle.vn_table_tests.proofs.tests.epair.fill.Given as goal

abbrev pub invariant-loop-turn : goal.invariant-loop-turn
invariant-loop-turn l = record { exists : IsSome (of l.pairs l.from.pair); few : l.queued ≤ l._turn }
