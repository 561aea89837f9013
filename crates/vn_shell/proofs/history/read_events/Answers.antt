use Rattle.std.proofs.Common.{◌∙◌, sym, ap, Some, arith}
use Rattle.std.proofs.lemmas.Result.{IfOk-weaker, IfErr-weaker}
use Rattle.vn_shell.proofs.Histories.{event_read, last_read, behind_last, none_read, never_ends}
use Rattle.vn_shell.proofs.history.read_events.Goals as goal

pub returns-in-Some-Last-clause-ok : goal.returns-in-Some-Last-clause-ok
returns-in-Some-Last-clause-ok c =
    IfOk-weaker c.end.result _ _
    (λ h p. last_read _ c.loop-line.number _ _ _ _ h c.loop-line.invariant.so_far c.in-Some.ensures.some (sym (c.in-Some-Last.is ∙ ap Some c.in-Some-Last.field-0-is) ∙ c.in_ok-event.ensures) p.0 p.1)
    c.end.ensures.ok

pub returns-in-Some-Last-clause-bad : goal.returns-in-Some-Last-clause-bad
returns-in-Some-Last-clause-bad c =
    IfErr-weaker c.end.result _ _
    (λ e why. behind_last _ c.loop-line.number _ _ _ _ e c.loop-line.invariant.so_far c.in-Some.ensures.some (sym (c.in-Some-Last.is ∙ ap Some c.in-Some-Last.field-0-is) ∙ c.in_ok-event.ensures) why)
    c.end.ensures.bad

pub returns-in-None-clause-bad : goal.returns-in-None-clause-bad
returns-in-None-clause-bad c =
    none_read _ c.loop-line.number _ _ _ _ c.loop-line.invariant.so_far c.in-Some.ensures.some (sym c.in-None.is ∙ c.in_ok-event.ensures)

pub loop-line-preserved : goal.loop-line-preserved
loop-line-preserved c = record {
  so_far =
      event_read _ c.loop-line.number _ _ _ _ _ _ c.loop-line.invariant.so_far c.in-Some.ensures.some
      (sym (c.in-Some-Happened.is ∙ ap Some c.in-Some-Happened.field-0-is) ∙ c.in_ok-event.ensures) c.in_ok-push-in-Some-Happened.ensures.ok;
  few = omega (arith, c.loop-line.invariant.few, c.in-Some.ensures.shorter);
}

pub returns-clause-bad : goal.returns-clause-bad
returns-clause-bad c = never_ends _ c.loop-line.number _ _ c.loop-line.invariant.so_far c.in_default.ensures.none
