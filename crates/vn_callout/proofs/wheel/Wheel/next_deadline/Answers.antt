use Rattle.std.proofs.Common.{◌≡◌, rules}
use Rattle.vn_rules.specs.Timers.{least}
use Rattle.vn_rules.proofs.TimerOrder.{least-met, least-bound, least-none}
use Rattle.vn_callout.proofs.wheel.Wheel.next_deadline.Goals as goal

pub returns-clause-met : goal.returns-clause-met
returns-clause-met c = let is : c.least_of.result ≡ least c.args.self.now = search rules in rw is (least-met c.args.self.now)

pub returns-clause-bound : goal.returns-clause-bound
returns-clause-bound c = let is : c.least_of.result ≡ least c.args.self.now = search rules in rw is (least-bound c.args.self.now)

pub returns-clause-none : goal.returns-clause-none
returns-clause-none c = let is : c.least_of.result ≡ least c.args.self.now = search rules in rw is (least-none c.args.self.now)
