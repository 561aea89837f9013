use Rattle.std.proofs.Common.{◌≡◌, length, refl, ap, ◌∙◌, arith}
use Rattle.vn_kernel.specs.Constructors.{constructors}
use Rattle.vn_kernel.specs.Fields.{Fields, fields}
use Rattle.vn_kernel.proofs.Destroyed.{noted-next, noted-all}
use Rattle.vn_kernel.proofs.burial.note_destruction.Goals as goal

pub loop-place-init : goal.loop-place-init
loop-place-init c = record { noted = refl; clock = refl; within = omega arith }

pub loop-place-preserved : goal.loop-place-preserved
loop-place-preserved c = record {
  noted = noted-next c.args.path.now c.args.state.now.clock c.loop-place.place (let all : length c.down-place-end.result.now ≡ length constructors = ap length c.down-place-end.ensures in omega arith) (fields c.loop-place.state) (fields c.note_destructor.new.state)
      (fields c.args.state.now) c.loop-place.invariant.clock c.in_ok-note_destructor.ensures c.loop-place.invariant.noted;
  clock = ap (λ (f : Fields). f.clock) c.in_ok-note_destructor.ensures ∙ c.loop-place.invariant.clock;
  within = let all : length c.down-place-end.result.now ≡ length constructors = ap length c.down-place-end.ensures in omega arith;
}

pub returns : goal.returns
returns c = noted-all c.args.path.now c.args.state.now.clock c.loop-place.place (let all : length c.down-place-end.result.now ≡ length constructors = ap length c.down-place-end.ensures in omega arith) (fields c.loop-place.state) (fields c.args.state.now) c.loop-place.invariant.noted
