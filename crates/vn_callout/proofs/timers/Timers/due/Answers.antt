use Rattle.std.proofs.Common.{sym, ap, ◌∙◌}
use Rattle.vn_callout.proofs.Entries.{numbered-rest, nothing-due, first-due}
use Rattle.vn_callout.proofs.timers.Timers.due.Goals as goal

pub returns-in_err-deadline-clause-due : goal.returns-in_err-deadline-clause-due
returns-in_err-deadline-clause-due c = c.from_residual.ensures ∙ sym (nothing-due c.args.now c.args.self.now _ c.in_err-deadline.ensures tt).0

pub returns-in_err-deadline-clause-taken : goal.returns-in_err-deadline-clause-taken
returns-in_err-deadline-clause-taken c = sym (nothing-due c.args.now c.args.self.now _ c.in_err-deadline.ensures tt).1

pub returns-then-deadline-now-clause-due : goal.returns-then-deadline-now-clause-due
returns-then-deadline-now-clause-due c = sym (nothing-due c.args.now c.args.self.now _ c.in_ok-deadline.ensures c.if-deadline-now.true).0

pub returns-then-deadline-now-clause-taken : goal.returns-then-deadline-now-clause-taken
returns-then-deadline-now-clause-taken c = sym (nothing-due c.args.now c.args.self.now _ c.in_ok-deadline.ensures c.if-deadline-now.true).1

pub invariant_of-self-2 : goal.invariant_of-self-2
invariant_of-self-2 c = numbered-rest c.self.inside.armed (c.in_ok-what.field-0-0, c.in_ok-what.what) _ _ c.in_ok-what.ensures.removal c.self.invariant

pub returns-clause-due : goal.returns-clause-due
returns-clause-due c = sym (first-due c.args.now c.in_ok-deadline.deadline c.args.self.now (c.in_ok-what.field-0-0, c.in_ok-what.what) _ _ (ap (λ t. t.standing) c.self.view_is) c.in_ok-what.ensures.removal c.in_ok-what.ensures.all_above c.in_ok-deadline.ensures c.if-deadline-now.false).0

pub returns-clause-taken : goal.returns-clause-taken
returns-clause-taken c =
    (λ i. record { armed = (c.self.view_is i).armed; standing = c.pop_first.new.self.entries })
    ∙ sym (first-due c.args.now c.in_ok-deadline.deadline c.args.self.now (c.in_ok-what.field-0-0, c.in_ok-what.what) _ _ (ap (λ t. t.standing) c.self.view_is) c.in_ok-what.ensures.removal c.in_ok-what.ensures.all_above c.in_ok-deadline.ensures c.if-deadline-now.false).1
