use Rattle.std.proofs.Common.{◌≡◌, ℕ, ◌<◌, ◌-◌, ◌+◌, false}
use Rattle.vn_epair.specs.declared.pair_row.TheConstants.{UNIT_MAX}
use Rattle.vn_epair.specs.Pairs.{is_unit_free}
use Rattle.vn_epair.proofs.pairs.Pairs.lowest_free.Given as goal

-- no unit so far is free
abbrev pub invariant-loop-home : goal.invariant-loop-home
invariant-loop-home g l = (lower : ℕ) → lower < l.unit → is_unit_free (g.S.Standing.stands l.standing l.home) l.home.0 l.self lower ≡ false

abbrev pub decreases-loop-home : goal.decreases-loop-home
decreases-loop-home g l = UNIT_MAX + 1 - l.unit
