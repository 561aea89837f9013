use Rattle.std.proofs.Common.{◌∙◌, arith}
use Rattle.vn_icmp.specs.Which.{is_one}
use Rattle.vn_icmp.proofs.Stopped.{next-stopped, all-stopped}
use Rattle.vn_icmp.proofs.timers.stop_timers.Goals as goal

pub loop-ping-preserved : goal.loop-ping-preserved
loop-ping-preserved c = record {
  rest = next-stopped (is_one c.args.which) c.args.pings.now _ _ _ c.loop-ping.ping-index _ c.loop-ping-test.true c.loop-ping.invariant.rest c.stop_timer.ensures.stopped;
  others = record { others = λ q off. c.stop_timer.ensures.others.others q off ∙ c.loop-ping.invariant.others.others q off };
}

pub returns-clause-stopped : goal.returns-clause-stopped
returns-clause-stopped c = all-stopped (is_one c.args.which) c.args.pings.now _ _ c.loop-ping.ping-index (let end = c.loop-ping-test.false in omega arith) c.loop-ping.invariant.rest
