use Rattle.std.specs.Prelude.{codes}
use Rattle.std.proofs.lemmas.Result.{on_ok_weaker}
use Rattle.vn_types.specs.Paths.{path_text}
use Rattle.vn_cells.specs.texts.Text.{limit_text}
use Rattle.vn_text.proofs.Putting.{four_put}
use Rattle.vn_text.proofs.command.jail.put_creation.Goals as goal

pub returns-clause-put : goal.returns-clause-put
returns-clause-put c = on_ok_weaker c.put_limit.result
    (λ h. four_put _ (codes "jail -c name=") (path_text c.args.path.now) (codes " vnet persist") (limit_text c.args.children_max) _ _ _ _ c.in_ok-put.ensures.put c.in_ok-write_path.ensures.written c.in_ok-put-2.ensures.put h)
    c.put_limit.ensures.put
