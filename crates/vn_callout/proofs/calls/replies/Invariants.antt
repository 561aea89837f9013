use Rattle.vn_callout.proofs.Runs.{IsSoFar}
use Rattle.vn_callout.proofs.calls.replies.Given as goal

abbrev pub invariant-loop-call : goal.invariant-loop-call
invariant-loop-call l = IsSoFar l.calls l.wheel l.answers l.call-index
