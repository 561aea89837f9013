use Rattle.std.proofs.Common.{sym, arith}
use Rattle.vn_kernel.specs.Fields.{fields}
use Rattle.vn_kernel.proofs.removing.Homing.{fewer-left, homing-done, homing-passed, homing-sent, lent-exists}
use Rattle.vn_kernel.proofs.homecoming.send_lent_home.Goals.{in-Some+in_ok-send_half_home-in-Some, in-None}
use Rattle.vn_kernel.proofs.homecoming.send_lent_home.Goals as goal

pub overflow_add-place : goal.overflow_add-place
overflow_add-place c = let n = c.loop-step.invariant.ahead in let m = c.loop-step-test.true in omega arith

pub send_half_home-requires-clause-exists : goal.send_half_home-requires-clause-exists
send_half_home-requires-clause-exists c =
    lent-exists c.args.sid.0 c.loop-step.place (fields c.args.state.now) (fields c.loop-step.state) c.loop-step.invariant.homing c.in-Some.half (sym c.in-Some.ensures)

pub loop-step-preserved : goal.loop-step-preserved
loop-step-preserved c = elim c.match-lent_at.branch [
  | in-Some+in_ok-send_half_home-in-Some w ↦ rw w.state-is (rw w.place-is (record {
    homing = homing-sent c.args.sid.0 c.loop-step.place (fields c.args.state.now) (fields c.loop-step.state) c.loop-step.invariant.homing w.in-Some.half (sym w.in-Some.ensures)
        (fields w.send_half_home.new.state) w.in_ok-send_half_home-in-Some.ensures c.requires.alive;
    steps = let n = c.loop-step.invariant.steps in let m = fewer-left c.args.sid.0 c.loop-step.place (fields c.args.state.now) (fields c.loop-step.state) c.loop-step.invariant.homing w.in-Some.half (sym w.in-Some.ensures)
        (fields w.send_half_home.new.state) w.in_ok-send_half_home-in-Some.ensures in omega arith;
    ahead = let n = c.loop-step.invariant.ahead in omega arith;
  }))
  | in-None w ↦ rw w.state-is (rw w.place-is (record {
    homing = homing-passed c.args.sid.0 c.loop-step.place (fields c.args.state.now) (fields c.loop-step.state) c.loop-step.invariant.homing (sym w.in-None.ensures);
    steps = let n = c.loop-step.invariant.steps in omega arith;
    ahead = let n = c.loop-step.invariant.ahead in omega arith;
  }))
]

pub returns : goal.returns
returns c =
    homing-done c.args.sid.0 c.loop-step.place (fields c.args.state.now) (fields c.loop-step.state) c.loop-step.invariant.homing c.requires.alive
    (let n = c.loop-step.invariant.steps in let m = c.loop-step-test.false in omega (arith, c.loop-step.auto))
