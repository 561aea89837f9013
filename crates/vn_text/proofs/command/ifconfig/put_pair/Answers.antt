use Rattle.std.proofs.Common.{◌++◌, ap, ◌∙◌}
use Rattle.std.specs.Prelude.{codes, decimal}
use Rattle.std.proofs.lemmas.Result.{on_ok_weaker}
use Rattle.vn_text.proofs.Putting.{three_put}
use Rattle.vn_text.proofs.command.ifconfig.put_pair.Goals as goal

pub returns-clause-put : goal.returns-clause-put
returns-clause-put c =
    on_ok_weaker c.put-2.result
    (λ h. three_put _ (codes "ifconfig epair") (decimal c.args.unit) (codes " create") _ _ _ c.in_ok-put.ensures.put
    (c.in_ok-put_number.ensures.put ∙ ap (λ n. c.put.new.out.items ++ decimal n) c.from.ensures) h)
    c.put-2.ensures.put
