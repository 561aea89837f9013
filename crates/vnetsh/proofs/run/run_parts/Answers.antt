use Rattle.std.proofs.Common.{length, ap, arith, [], ◌≡◌}
use Rattle.std.proofs.lemmas.List.{nil_from_length}
use Rattle.std.proofs.lemmas.Result.{err_from_is_err_and}
use Rattle.std.specs.Vec.Iter.{into_iter_items}
use Rattle.vn_cells.specs.machine.Events.{is_valid_part}
use Rattle.vn_cells.specs.texts.Schedule.{part_events, parts_events}
use Rattle.vn_shell.specs.Readings.{is_built_part}
use Rattle.vnetsh.proofs.Runs.{fewer_left, parts_in_turn, next_and_rest, next_long, none_left, none_long}
use Rattle.vnetsh.proofs.run.run_parts.Goals as goal

pub loop-part-preserved : goal.loop-part-preserved
loop-part-preserved c = record {
  left =
      fewer_left part_events parts_events parts_in_turn c.args.kernel.now.events c.args.parts c.loop-part.kernel.events c.run_part.new.kernel.events
      (into_iter_items c.loop-part.part-iterator) c.in-Some.part (into_iter_items c.next.new.self)
      c.loop-part.invariant.left c.in-Some.ensures.steps.0 c.in_ok-run_part.ensures.happened.0 c.in_ok-run_part.ensures.happened.1;
  valid = (next_and_rest is_valid_part _ c.in-Some.part _ c.in-Some.ensures.steps.0 c.loop-part.invariant.valid).1;
  built = (next_and_rest is_built_part _ c.in-Some.part _ c.in-Some.ensures.steps.0 c.loop-part.invariant.built).1;
  standing = c.in_ok-run_part.ensures.standing;
  counted = omega (arith, c.in-Some.ensures.steps.1, c.loop-part.invariant.counted, ap length c.in-Some.ensures.steps.0);
}

pub returns-in_err-run_part-clause-happened : goal.returns-in_err-run_part-clause-happened
returns-in_err-run_part-clause-happened c =
    let p = err_from_is_err_and c.from_residual.result c.from_residual.ensures.1 in
    rw (p.1, p.2) (
      tt,
      next_long part_events parts_events parts_in_turn c.args.kernel.now.events c.args.parts c.loop-part.kernel.events
          (into_iter_items c.loop-part.part-iterator) c.in-Some.part (into_iter_items c.next.new.self)
          c.in_err-run_part.field-0.0 c.loop-part.invariant.left c.in-Some.ensures.steps.0 c.in_err-run_part.ensures.happened.1,
    )

pub returns-clause-happened : goal.returns-clause-happened
returns-clause-happened c =
    let none : into_iter_items c.loop-part.part-iterator ≡ [] = nil_from_length _ (omega (arith, c.in-None.ensures.steps, c.loop-part.invariant.counted)) in (
      none_left part_events parts_events parts_in_turn c.args.kernel.now.events c.args.parts c.loop-part.kernel.events _ none c.loop-part.invariant.left,
      none_long part_events parts_events parts_in_turn c.args.kernel.now.events c.args.parts c.loop-part.kernel.events _ none c.loop-part.invariant.left,
    )
