use Rattle.std.proofs.Common.{sym, ◌∙◌}
use Rattle.std.proofs.lemmas.Result.{on_ok_weaker}
use Rattle.vn_text.specs.Watches.{watches_text}
use Rattle.vn_text.proofs.Putting.{no_watch, nothing_put, watches_put}
use Rattle.vn_text.proofs.watch.put_watches.Goals as goal

pub returns-then-is_empty-clause-put : goal.returns-then-is_empty-clause-put
returns-then-is_empty-clause-put c = nothing_put watches_text _ _ no_watch (sym c.is_empty.ensures ∙ c.if-is_empty.true)

pub returns-clause-put : goal.returns-clause-put
returns-clause-put c = on_ok_weaker c.put_each.result (λ h. watches_put _ _ _ _ (sym c.is_empty.ensures ∙ c.if-is_empty.false) c.in_ok-put.ensures.put h) c.put_each.ensures.put
