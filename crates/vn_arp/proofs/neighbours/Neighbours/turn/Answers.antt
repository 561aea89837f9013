use Rattle.vn_callout.specs.Stacks.{of as timers_of}
use Rattle.vn_arp.proofs.Followed.{turned_ask, turned_down, turned_out}
use Rattle.vn_arp.proofs.neighbours.Neighbours.turn.Goals as goal

pub returns-in_ok-change-in-Ask-clause-here : goal.returns-in_ok-change-in-Ask-clause-here
returns-in_ok-change-in-Ask-clause-here c =
    turned_ask c.args.self.now c.change.new.self (timers_of c.args.wheel.now c.args.sid.0) (timers_of c.change.new.wheel c.args.sid.0) c.args.at.half c.args.at.ip c.args.now c.in-Some.turn c.in-Some.ensures c.in-Ask.is c.requires.taken c.in_ok-change-in-Ask.ensures.here

pub returns-in_ok-change-in-WentDown-clause-here : goal.returns-in_ok-change-in-WentDown-clause-here
returns-in_ok-change-in-WentDown-clause-here c =
    turned_down c.args.self.now c.change-in-WentDown.new.self (timers_of c.args.wheel.now c.args.sid.0) (timers_of c.change-in-WentDown.new.wheel c.args.sid.0) c.args.at.half c.args.at.ip c.args.now c.in-Some.turn c.in-Some.ensures c.in-WentDown.dropped c.in-WentDown.is c.requires.taken c.in_ok-change-in-WentDown.ensures.here

pub returns-in-Removed-clause-here : goal.returns-in-Removed-clause-here
returns-in-Removed-clause-here c =
    turned_out c.args.self.now c.remove.new.self (timers_of c.args.wheel.now c.args.sid.0) (timers_of c.remove.new.wheel c.args.sid.0) c.args.at.half c.args.at.ip c.args.now c.in-Some.turn c.in-Some.ensures c.in-Removed.is c.remove.ensures.left c.remove.ensures.stopped
