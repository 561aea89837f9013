use Rattle.std.proofs.Common.{◌≡◌, ℕ, ◌+◌, ◌++◌, ◌∷◌, [], List, length, append-nil, ap, sym, subst, ◌∙◌, arith}
use Rattle.vn_kernel.specs.Construction.{HaveRun}
use Rattle.vn_kernel.specs.Constructors.{constructors}
use Rattle.vn_kernel.proofs.Constructed.{constructs, builds-then, unbuilt, builds-nothing}
use Rattle.vn_kernel.proofs.Entered.{entered, entered-more}
use Rattle.vn_kernel.proofs.Registering.{number_before-at}
use Rattle.vn_kernel.proofs.construction.run_up.Goals as goal

pub loop-constructor-init : goal.loop-constructor-init
loop-constructor-init c = record {
  built = unbuilt c.args.tables.now c.requires.sound c.args.sid.0 c.requires.dead;
  rest = builds-nothing c.args.sid.0 c.args.tables.now;
  noted = sym (append-nil c.args.entries.now);
}

pub run-requires : goal.run-requires
run-requires c =
    subst (λ n. HaveRun n c.args.sid.0 c.loop-constructor.tables) (sym (number_before-at c.args.up.now c.requires.order c.loop-constructor.constructor-index _ (omega arith))) c.loop-constructor.invariant.built

pub loop-constructor-preserved : goal.loop-constructor-preserved
loop-constructor-preserved c = record {
  built = subst (λ n. HaveRun (n + 1) c.args.sid.0 c.run.new.tables) (number_before-at c.args.up.now c.requires.order c.loop-constructor.constructor-index _ (omega arith)) c.in_ok-run.ensures.built;
  rest = builds-then c.args.sid.0 c.args.tables.now c.loop-constructor.tables c.run.new.tables c.loop-constructor.invariant.rest c.in_ok-run.ensures.rest;
  noted =
      c.in_ok-push.ensures.ok ∙ ap (λ (name : List ℕ). c.loop-constructor.entries ++ entered c.args.clock name ∷ []) c.name.ensures
      ∙ entered-more c.args.up.now c.requires.order c.args.clock c.loop-constructor.constructor-index _ c.args.entries.now c.loop-constructor.entries (omega arith) c.loop-constructor.invariant.noted;
}

pub returns-clause-constructs : goal.returns-clause-constructs
returns-clause-constructs c =
    constructs c.args.tables.now c.loop-constructor.tables c.requires.sound c.args.sid.0 c.requires.dead
    (subst (λ n. HaveRun n c.args.sid.0 c.loop-constructor.tables) (let all : length c.args.up.now ≡ length constructors = ap length c.requires.order in omega arith) c.loop-constructor.invariant.built)
    c.loop-constructor.invariant.rest
