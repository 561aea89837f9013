use Rattle.std.proofs.Common.{◌≡◌, drop}
use Rattle.vn_types.specs.PerStack.{ChangesOnly}
use Rattle.vn_rules.specs.Pings.{timers_without}
use Rattle.vn_callout.specs.Stacks.{of}
use Rattle.vn_icmp.specs.Which.{is_one}
use Rattle.vn_icmp.proofs.timers.stop_timers.Given as goal

-- the timers of the pings to come are still to be stopped
abbrev pub invariant-loop-ping : goal.invariant-loop-ping
invariant-loop-ping l = record {
  rest : timers_without (is_one l.which) (drop l.ping-index l.pings) (of l.wheel l.sid.0) ≡ timers_without (is_one l.which) l.pings (of l.initial.wheel l.sid.0);
  others : ChangesOnly l.sid.0 (of l.initial.wheel) (of l.wheel);
}
