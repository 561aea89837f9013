use Rattle.std.proofs.Common.{◌≡◌, IfOk, OnErr, OnOk, refl, subst, sym}
use Rattle.vn_types.specs.declared.interface.Sid.{Sid}
use Rattle.vn_types.specs.Refusals.{IsRefusedBy}
use Rattle.vn_jail.specs.Tree.{create_refusal, created, number_of}
use Rattle.vn_rules.specs.declared.outcome.Outcome.TheVariants.{Done}
use Rattle.vn_rules.specs.Rules.{answer}
use Rattle.vn_cells.specs.commands.Jails.{creation}
use Rattle.vn_cells.specs.world.World.{common_of}
use Rattle.vn_kernel.specs.Fields.{fields}
use Rattle.vn_kernel.specs.Stands.{Answered}
use Rattle.vn_kernel.specs.Worlds.{world_of}
use Rattle.vn_kernel.proofs.Commands.{created_as, free_lives, refused_creation}
use Rattle.vn_kernel.proofs.creation.make_jail.Goals as goal

pub construct-requires-clause-dead : goal.construct-requires-clause-dead
construct-requires-clause-dead c =
    free_lives (fields c.args.state.now) c.requires.stands c.args.jail c.requires.label c.in-Ok.sid.0
    (subst (IsRefusedBy (create_refusal c.args.jail c.args.state.now.jails)) c.in-Ok.is c.in_ok-answer.ensures.answer)
    (subst (λ a. IfOk a (λ (sid : Sid). sid.0 ≡ number_of c.args.jail c.args.state.now.jails)) c.in-Ok.is c.in_ok-answer.ensures.number)

pub returns-in-Err : goal.returns-in-Err
returns-in-Err c =
    refused_creation (fields c.args.state.now) c.requires.stands c.args.jail c.args.limit c.in-Err.errno c.create.new.self
    (subst (IsRefusedBy (create_refusal c.args.jail c.args.state.now.jails)) c.in-Err.is c.in_ok-answer.ensures.answer)
    (subst (λ a. OnErr a (c.create.new.self ≡ c.args.state.now.jails)) c.in-Err.is c.in_ok-answer.ensures.refused)

pub returns : goal.returns
returns c =
    subst (Answered (answer (world_of (fields c.args.state.now)) (creation (common_of (world_of (fields c.args.state.now))) c.args.jail c.args.limit (world_of (fields c.args.state.now)))) Done (fields c.args.state.now))
    (sym c.in_ok-construct.ensures.noted)
    (created_as (fields c.args.state.now) c.requires.stands c.args.jail c.args.limit c.requires.label
    (subst (IsRefusedBy (create_refusal c.args.jail c.args.state.now.jails)) c.in-Ok.is c.in_ok-answer.ensures.answer)
    c.create.new.self
    (subst (λ a. OnOk a (c.create.new.self ≡ created c.args.jail c.args.limit c.args.state.now.jails)) c.in-Ok.is c.in_ok-answer.ensures.created)
    c.law_of_tree.ensures.paths c.law_of_tree.ensures.tree c.create.ensures.numbers
    c.in-Ok.sid.0
    (subst (λ a. IfOk a (λ (sid : Sid). sid.0 ≡ number_of c.args.jail c.args.state.now.jails)) c.in-Ok.is c.in_ok-answer.ensures.number)
    c.construct.new.state.tables c.in_ok-construct.ensures.constructs _ refl)
