use Rattle.vn_callout.proofs.Entries.{number-unused, numbered-insert_entry}
use Rattle.vn_callout.proofs.timers.Timers.arm.Goals as goal

pub returns-in_err-insert-clause-unused : goal.returns-in_err-insert-clause-unused
returns-in_err-insert-clause-unused c = rw (← c.self.view_is) (number-unused _ _ c.self.invariant)

pub invariant_of-self-2 : goal.invariant_of-self-2
invariant_of-self-2 c = rw c.in_ok-insert.ensures.entries (numbered-insert_entry c.args.deadline c.self.inside.armed _ _ c.self.invariant)

pub returns-clause-unused : goal.returns-clause-unused
returns-clause-unused c = rw (← c.self.view_is) (number-unused _ _ c.self.invariant)
