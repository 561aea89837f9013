use Rattle.std.proofs.lemmas.Result.{err_from_is_err_and}
use Rattle.vnetsh.proofs.run.run_text.Goals as goal

pub returns-in_err-report-clause-long : goal.returns-in_err-report-clause-long
returns-in_err-report-clause-long c =
    let p = err_from_is_err_and c.from_residual.result c.from_residual.ensures.1 in
    rw (p.1, p.2) c.in_err-report.ensures.long
