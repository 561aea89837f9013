use Rattle.std.proofs.Common.{arith}
use Rattle.std.proofs.lemmas.Result.{err_from_is_err_and}
use Rattle.vn_shell.proofs.Scripts.{next_put, next_refused, all_put}
use Rattle.vn_shell.proofs.script.read_parts.Goals as goal

pub returns-clause-ok : goal.returns-clause-ok
returns-clause-ok c = all_put _ _ _ _ _ _ c.loop-line.invariant.so_far c.in_default.ensures.none c.in_ok-parts-2.ensures

pub returns-in_err-parts-clause-script : goal.returns-in_err-parts-clause-script
returns-in_err-parts-clause-script c =
    let p = err_from_is_err_and c.from_residual.result c.from_residual.ensures.1 in
    rw (p.1, p.2) (next_refused _ _ c.loop-line.number _ _ _ _ c.in_err-parts.field-0.0 c.loop-line.invariant.so_far c.in-Some.ensures.some c.in_err-parts.ensures.script)

pub loop-line-preserved : goal.loop-line-preserved
loop-line-preserved c = record {
  so_far = next_put _ _ c.loop-line.number _ _ _ _ _ c.loop-line.invariant.so_far c.in-Some.ensures.some c.in_ok-parts.ensures.ok;
  few = omega (arith, c.loop-line.invariant.few, c.in-Some.ensures.shorter);
}
