use Rattle.vn_types.proofs.PathCuts.{at_dot, past_other, none_left}
use Rattle.vn_types.proofs.path.before_last_dot.Goals as goal

pub returns-then-last-eq46 : goal.returns-then-last-eq46
returns-then-last-eq46 c = at_dot _ _ _ _ c.loop-last.invariant c.in-Some.ensures.cases.0 c.if-last-eq46.true

pub loop-last-preserved : goal.loop-last-preserved
loop-last-preserved c = past_other _ _ _ _ c.loop-last.invariant c.in-Some.ensures.cases.0 c.if-last-eq46.false

pub returns : goal.returns
returns c = none_left _ _ c.loop-last.invariant c.in_default.ensures.cases
