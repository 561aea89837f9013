use Rattle.std.proofs.Common.{◌≡◌, drop}
use Rattle.vn_rules.specs.Timers.{lesser, least}
use Rattle.vn_callout.proofs.wheel.least_of.Given as goal

-- the least deadline of the stacks so far and of those to come
abbrev pub invariant-loop-timers : goal.invariant-loop-timers
invariant-loop-timers l = lesser l.soonest (least (drop l.timers-index l.stacks)) ≡ least l.stacks
