-- The timers of each stack.
use Rattle.std.specs.Prelude.{ℕ, List}
use Rattle.vn_types.specs.declared.interface.HalfId.{HalfId}
use Rattle.vn_types.specs.PerStack.{of as kept}
use Rattle.vn_rules.specs.declared.timer.TimersOf.{TimersOf}
use Rattle.vn_rules.specs.Timers.{no_timers}

-- what a stack has, by its number
abbrev pub of : List (TimersOf HalfId) → ℕ → TimersOf HalfId
of rows sid = kept no_timers rows sid
