use Rattle.std.proofs.lemmas.Result.{err_from_is_err_and}
use Rattle.vn_shell.proofs.ReadParts.{parts_valid}
use Rattle.vn_shell.proofs.Scripts.{script_is, script_refused}
use Rattle.vn_shell.proofs.script.read_by.Goals as goal

pub returns-in_err-parts-clause-script : goal.returns-in_err-parts-clause-script
returns-in_err-parts-clause-script c =
    let p = err_from_is_err_and c.from_residual.result c.from_residual.ensures.1 in
    rw (p.1, p.2) (script_refused _ c.args.text.now c.in_err-parts.field-0.0 c.in_err-parts.ensures.script)

pub returns-clause-ok : goal.returns-clause-ok
returns-clause-ok c = script_is _ _ _ c.in_ok-parts.ensures.ok

pub returns-clause-valid : goal.returns-clause-valid
returns-clause-valid c = parts_valid _ c.args.text.now _ c.in_ok-parts.ensures.ok
