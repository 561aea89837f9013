use Rattle.std.proofs.lemmas.Result.{IfOk-weaker}
use Rattle.vn_shell.proofs.ReadParts.{script_built}
use Rattle.vn_shell.proofs.script.read_script.Goals as goal

pub returns-clause-built : goal.returns-clause-built
returns-clause-built c = IfOk-weaker c.read_by.result _ _ (λ script e. script_built c.args.text.now script e) c.read_by.ensures.ok
