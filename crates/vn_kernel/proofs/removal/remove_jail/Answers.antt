use Rattle.std.proofs.Common.{add-one, drop, drop-cons, subst, sym, arith}
use Rattle.std.proofs.lemmas.List.{drop_all}
use Rattle.vn_kernel.specs.Fields.{fields}
use Rattle.vn_kernel.proofs.removing.Removed.{Tearing, next-childless, next-jail, next-stack, removal-refused, tearing-done, tearing-next, tearing-none}
use Rattle.vn_kernel.proofs.removal.remove_jail.Goals as goal

pub returns-in-Err : goal.returns-in-Err
returns-in-Err c = removal-refused (fields c.args.state.now) c.requires.stands c.args.jail.now c.in-Err.errno (rw c.in-Err.is at c.in_ok-sids.ensures.answer)

pub loop-sid-init : goal.loop-sid-init
loop-sid-init c = rw c.deref-sid-items.ensures.value (tearing-none (fields c.args.state.now) c.requires.stands c.args.jail.now c.in-Ok.sids.items (rw c.in-Ok.is at c.in_ok-sids.ensures.listed))

pub end_stack-requires-clause-stack : goal.end_stack-requires-clause-stack
end_stack-requires-clause-stack c =
    next-stack (fields c.args.state.now) (fields c.loop-sid.state) c.args.jail.now c.requires.label _ _
    (subst (λ rest. Tearing c.args.jail.now rest (fields c.args.state.now) (fields c.loop-sid.state)) (drop-cons c.deref-sid-items.result.now c.loop-sid.sid-index _ c.loop-sid-test.true) c.loop-sid.invariant)

pub end_stack-requires-clause-jail : goal.end_stack-requires-clause-jail
end_stack-requires-clause-jail c =
    next-jail (fields c.args.state.now) (fields c.loop-sid.state) c.args.jail.now c.requires.label _ _
    (subst (λ rest. Tearing c.args.jail.now rest (fields c.args.state.now) (fields c.loop-sid.state)) (drop-cons c.deref-sid-items.result.now c.loop-sid.sid-index _ c.loop-sid-test.true) c.loop-sid.invariant)

pub end_stack-requires-clause-childless : goal.end_stack-requires-clause-childless
end_stack-requires-clause-childless c =
    next-childless (fields c.args.state.now) (fields c.loop-sid.state) c.args.jail.now c.requires.label _ _
    (subst (λ rest. Tearing c.args.jail.now rest (fields c.args.state.now) (fields c.loop-sid.state)) (drop-cons c.deref-sid-items.result.now c.loop-sid.sid-index _ c.loop-sid-test.true) c.loop-sid.invariant)

pub loop-sid-preserved : goal.loop-sid-preserved
loop-sid-preserved c =
    subst (λ i. Tearing c.args.jail.now (drop i c.deref-sid-items.result.now) (fields c.args.state.now) (fields c.end_stack.new.state)) (sym (add-one c.loop-sid.sid-index))
    (tearing-next (fields c.args.state.now) (fields c.loop-sid.state) c.args.jail.now c.requires.label _ _
    (subst (λ rest. Tearing c.args.jail.now rest (fields c.args.state.now) (fields c.loop-sid.state)) (drop-cons c.deref-sid-items.result.now c.loop-sid.sid-index _ c.loop-sid-test.true) c.loop-sid.invariant)
    (fields c.end_stack.new.state) c.in_ok-end_stack.ensures)

pub returns : goal.returns
returns c =
    tearing-done (fields c.args.state.now) c.requires.stands c.args.jail.now (fields c.loop-sid.state) (rw c.in-Ok.is at c.in_ok-sids.ensures.answer)
    (subst (λ rest. Tearing c.args.jail.now rest (fields c.args.state.now) (fields c.loop-sid.state))
    (drop_all c.loop-sid.sid-index c.deref-sid-items.result.now (let end = c.loop-sid-test.false in omega arith)) c.loop-sid.invariant)
