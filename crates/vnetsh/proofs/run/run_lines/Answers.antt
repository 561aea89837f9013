use Rattle.std.proofs.Common.{length, ap, arith, [], ◌≡◌}
use Rattle.std.proofs.lemmas.List.{nil_from_length}
use Rattle.std.proofs.lemmas.Result.{err_from_is_err_and}
use Rattle.std.specs.Vec.Iter.{into_iter_items}
use Rattle.vn_cells.specs.machine.Events.{is_valid_line}
use Rattle.vn_cells.specs.texts.Schedule.{line_events, lines_events}
use Rattle.vn_shell.specs.Readings.{is_built_lane}
use Rattle.vnetsh.proofs.Runs.{fewer_left, lines_in_turn, next_and_rest, next_long, none_left, none_long}
use Rattle.vnetsh.proofs.run.run_lines.Goals as goal

pub loop-line-preserved : goal.loop-line-preserved
loop-line-preserved c = record {
  left =
      fewer_left line_events lines_events lines_in_turn c.args.kernel.now.events c.args.lines c.loop-line.kernel.events c.run_line.new.kernel.events
      (into_iter_items c.loop-line.line-iterator) c.in-Some.line (into_iter_items c.next.new.self)
      c.loop-line.invariant.left c.in-Some.ensures.steps.0 c.in_ok-run_line.ensures.happened.0 c.in_ok-run_line.ensures.happened.1;
  valid = (next_and_rest is_valid_line _ c.in-Some.line _ c.in-Some.ensures.steps.0 c.loop-line.invariant.valid).1;
  built = (next_and_rest is_built_lane _ c.in-Some.line _ c.in-Some.ensures.steps.0 c.loop-line.invariant.built).1;
  standing = c.in_ok-run_line.ensures.standing;
  counted = omega (arith, c.in-Some.ensures.steps.1, c.loop-line.invariant.counted, ap length c.in-Some.ensures.steps.0);
}

pub returns-in_err-run_line-clause-happened : goal.returns-in_err-run_line-clause-happened
returns-in_err-run_line-clause-happened c =
    let p = err_from_is_err_and c.from_residual.result c.from_residual.ensures.1 in
    rw (p.1, p.2) (
      tt,
      next_long line_events lines_events lines_in_turn c.args.kernel.now.events c.args.lines c.loop-line.kernel.events
          (into_iter_items c.loop-line.line-iterator) c.in-Some.line (into_iter_items c.next.new.self)
          c.in_err-run_line.field-0.0 c.loop-line.invariant.left c.in-Some.ensures.steps.0 c.in_err-run_line.ensures.happened.1,
    )

pub returns-clause-happened : goal.returns-clause-happened
returns-clause-happened c =
    let none : into_iter_items c.loop-line.line-iterator ≡ [] = nil_from_length _ (omega (arith, c.in-None.ensures.steps, c.loop-line.invariant.counted)) in (
      none_left line_events lines_events lines_in_turn c.args.kernel.now.events c.args.lines c.loop-line.kernel.events _ none c.loop-line.invariant.left,
      none_long line_events lines_events lines_in_turn c.args.kernel.now.events c.args.lines c.loop-line.kernel.events _ none c.loop-line.invariant.left,
    )
