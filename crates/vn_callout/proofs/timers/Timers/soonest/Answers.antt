use Rattle.std.proofs.Common.{ap}
use Rattle.vn_callout.proofs.Entries.{soonest-at_first}
use Rattle.vn_callout.proofs.timers.Timers.soonest.Goals as goal

pub returns-in-Some : goal.returns-in-Some
returns-in-Some c = soonest-at_first c.args.self.now c.self.inside.standing.entries (c.in-Some.turn.now, c.in-Some.field-0-1.now) (ap (λ t. t.standing) c.self.view_is) c.in-Some.ensures.first c.in-Some.ensures.all_from
