use Rattle.std.proofs.Common.{◌≤◌, length, ap, subst, ◌∙◌}
use Rattle.std.proofs.lemmas.Result.{err_from_is_err_and}
use Rattle.vn_cells.specs.declared.event.TheConstants.{EVENTS_MAX}
use Rattle.vn_cells.specs.texts.Reports.{report_of}
use Rattle.vnetsh.specs.Runs.{TellsFault}
use Rattle.vnetsh.proofs.WholeRuns.{new_room, new_run, new_stands}
use Rattle.vnetsh.proofs.run.run_script.Goals as goal

pub run_parts-requires-clause-standing : goal.run_parts-requires-clause-standing
run_parts-requires-clause-standing c = new_stands c.in_ok-kernel.kernel c.in_ok-kernel.ensures.opened

pub run_parts-requires-clause-room : goal.run_parts-requires-clause-room
run_parts-requires-clause-room c = new_room c.in_ok-kernel.kernel c.in_ok-kernel.ensures.opened

pub returns-in_err-run_parts-clause-long : goal.returns-in_err-run_parts-clause-long
returns-in_err-run_parts-clause-long c =
    let p = err_from_is_err_and c.from_residual-in_err-run_parts.result c.from_residual-in_err-run_parts.ensures.1 in
    rw (p.1, p.2)
    (subst (TellsFault c.in_err-run_parts.field-0.0) (new_run c.args.script c.in_ok-kernel.kernel c.in_ok-kernel.ensures.opened) c.in_err-run_parts.ensures.happened.1)

pub returns-clause-ok : goal.returns-clause-ok
returns-clause-ok c =
    c.in_ok-report.ensures.report
    ∙ ap report_of (c.in_ok-run_parts.ensures.happened.0 ∙ new_run c.args.script c.in_ok-kernel.kernel c.in_ok-kernel.ensures.opened)

pub returns-clause-long : goal.returns-clause-long
returns-clause-long c =
    subst (λ es. length es ≤ EVENTS_MAX) (new_run c.args.script c.in_ok-kernel.kernel c.in_ok-kernel.ensures.opened) c.in_ok-run_parts.ensures.happened.1
