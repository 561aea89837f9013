use Rattle.std.proofs.Common.{ℕ, ◌+◌, ◌-◌, ◌<◌, ◌≤◌, IsSome}
use Rattle.vn_epair.specs.declared.pair_row.TheConstants.{UNIT_MAX}
use Rattle.vn_epair.specs.Kept.{told}
use Rattle.vn_epair.proofs.name_index.first_unnamed.Given as goal

-- each unit so far has a number
abbrev pub invariant-loop-unit : goal.invariant-loop-unit
invariant-loop-unit l = (unit : ℕ) → l.from ≤ unit → unit < l.unit → IsSome (told l.numbers.entries (l.home.0, unit))

abbrev pub decreases-loop-unit : goal.decreases-loop-unit
decreases-loop-unit l = UNIT_MAX + 1 - l.unit
