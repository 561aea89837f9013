use Rattle.std.proofs.Common.{◌∙◌, sym}
use Rattle.std.proofs.lemmas.Result.{IfOk-weaker, IfErr-weaker}
use Rattle.vn_shell.proofs.EventBounds.{events_valid}
use Rattle.vn_shell.proofs.Histories.{begun, no_line, not_begun, refused_behind}
use Rattle.vn_shell.proofs.history.read_history.Goals as goal

pub returns-in_default-clause-bad : goal.returns-in_default-clause-bad
returns-in_default-clause-bad c = no_line _ c.in_default.ensures.none

pub returns-then-first-clause-ok : goal.returns-then-first-clause-ok
returns-then-first-clause-ok c =
    IfOk-weaker c.read_events.result _ _ (λ h e. begun _ _ _ c.in-Some.ensures.some (sym c.in_ok-first.ensures ∙ c.if-first.true) ∙ e) c.read_events.ensures.ok

pub returns-then-first-clause-bad : goal.returns-then-first-clause-bad
returns-then-first-clause-bad c =
    IfErr-weaker c.read_events.result _ _ (λ e why. refused_behind _ _ _ e c.in-Some.ensures.some (sym c.in_ok-first.ensures ∙ c.if-first.true) why) c.read_events.ensures.bad

pub returns-then-first-clause-valid : goal.returns-then-first-clause-valid
returns-then-first-clause-valid c = IfOk-weaker c.read_events.result _ _ (λ h e. events_valid 2 _ h e) c.read_events.ensures.ok

pub returns-clause-bad : goal.returns-clause-bad
returns-clause-bad c = not_begun _ _ _ c.in-Some.ensures.some (sym c.in_ok-first.ensures ∙ c.if-first.false)
