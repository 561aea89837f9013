use Rattle.std.proofs.Common.{◌≡◌, rules}
use Rattle.vn_rules.specs.Timers.{due}
use Rattle.vn_rules.proofs.TimerOrder.{due-first, due-none}
use Rattle.vn_callout.specs.Stacks.{of}
use Rattle.vn_callout.proofs.wheel.Wheel.due.Goals as goal

pub returns-clause-first : goal.returns-clause-first
returns-clause-first c = let is : c.due.result ≡ due c.args.now (of c.args.self.now c.args.sid.0) = search rules in rw is (due-first c.args.now (of c.args.self.now c.args.sid.0))

pub returns-clause-none : goal.returns-clause-none
returns-clause-none c = let is : c.due.result ≡ due c.args.now (of c.args.self.now c.args.sid.0) = search rules in rw is (due-none c.args.now (of c.args.self.now c.args.sid.0))
