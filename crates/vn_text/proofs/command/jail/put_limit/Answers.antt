use Rattle.std.proofs.lemmas.Result.{on_ok_weaker}
use Rattle.vn_text.proofs.Putting.{limit_put}
use Rattle.vn_text.proofs.command.jail.put_limit.Goals as goal

pub returns-clause-put : goal.returns-clause-put
returns-clause-put c = on_ok_weaker c.put_number.result (λ h. limit_put _ _ _ _ _ c.if-children_max-eq0.false c.from.ensures c.in_ok-put.ensures.put h) c.put_number.ensures.put
