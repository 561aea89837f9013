use Rattle.std.proofs.Common.{◌≡◌, length}
use Rattle.vn_types.specs.PathTexts.{before_last_dot}
use Rattle.vn_types.proofs.path.before_last_dot.Given as goal

abbrev pub invariant-loop-last : goal.invariant-loop-last
invariant-loop-last l = before_last_dot l.rest ≡ before_last_dot l.text

abbrev pub decreases-loop-last : goal.decreases-loop-last
decreases-loop-last l = length l.rest
