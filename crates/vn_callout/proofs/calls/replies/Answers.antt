use Rattle.vn_callout.proofs.Runs.{one_call_more}
use Rattle.vn_callout.proofs.calls.replies.Goals as goal

pub loop-call-preserved : goal.loop-call-preserved
loop-call-preserved c =
    rw c.in_ok-push.ensures.ok
    (one_call_more _ c.loop-call.wheel _ c.loop-call.answers c.loop-call.call-index _ c.in_ok-answer.answer c.loop-call.invariant c.loop-call-test.true c.in_ok-answer.ensures.reply c.in_ok-answer.ensures.after)
