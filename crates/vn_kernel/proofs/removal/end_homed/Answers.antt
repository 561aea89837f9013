use Rattle.std.proofs.Common.{drop, drop-cons, add-one, sym, ap, ◌∙◌, arith}
use Rattle.std.proofs.lemmas.List.{drop_all}
use Rattle.vn_kernel.specs.Fields.{fields}
use Rattle.vn_kernel.proofs.removing.Ending.{ending-done, ending-next, next-exists, next-left}
use Rattle.vn_kernel.proofs.removal.end_homed.Goals as goal

pub end_pair-requires-clause-exists : goal.end_pair-requires-clause-exists
end_pair-requires-clause-exists c =
    next-exists c.args.sid.0 (fields c.args.state.now) (fields c.loop-pair.state) c.loop-pair.invariant.ending _ _
    (c.loop-pair.invariant.left ∙ drop-cons c.deref-pair-items.result.now c.loop-pair.pair-index 0 c.loop-pair-test.true)

pub loop-pair-preserved : goal.loop-pair-preserved
loop-pair-preserved c =
    let next = c.loop-pair.invariant.left ∙ drop-cons c.deref-pair-items.result.now c.loop-pair.pair-index 0 c.loop-pair-test.true in
    record {
      ending = ending-next c.args.sid.0 (fields c.args.state.now) (fields c.loop-pair.state) c.loop-pair.invariant.ending _ _ next (fields c.end_pair.new.state) c.in_ok-end_pair.ensures;
      left = next-left c.args.sid.0 (fields c.args.state.now) (fields c.loop-pair.state) c.loop-pair.invariant.ending _ _ next (fields c.end_pair.new.state) c.in_ok-end_pair.ensures
          ∙ ap (λ i. drop i c.deref-pair-items.result.now) (sym (add-one c.loop-pair.pair-index));
    }

pub returns : goal.returns
returns c =
    ending-done c.args.sid.0 (fields c.args.state.now) (fields c.loop-pair.state) c.loop-pair.invariant.ending c.requires.alive
    (c.loop-pair.invariant.left ∙ drop_all c.loop-pair.pair-index c.deref-pair-items.result.now (let end = c.loop-pair-test.false in omega arith))
