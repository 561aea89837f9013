use Rattle.std.proofs.lemmas.Result.{on_ok_weaker}
use Rattle.vn_text.proofs.Putting.{pool_put}
use Rattle.vn_text.proofs.report.put_pool.Goals as goal

pub returns-clause-put : goal.returns-clause-put
returns-clause-put c = on_ok_weaker c.put-3.result (λ h. pool_put _ _ _ _ _ _ _ _ c.in_ok-put.ensures.put c.in_ok-put_number.ensures.put c.in_ok-put-2.ensures.put c.in_ok-put_number-2.ensures.put h) c.put-3.ensures.put
