use Rattle.std.proofs.Common.{◌≡◌, ◌++◌, ◌∷◌, [], length, Some, IfOk, OnOk, sym, ◌∙◌, subst}
use Rattle.vn_types.specs.Refusals.{IsRefusedBy}
use Rattle.vn_epair.specs.Pairs.{create_refusal, new_pair}
use Rattle.vn_kernel.proofs.making.Steps.{a-unnamed, b-unnamed, makes, making-as_created}
use Rattle.vn_kernel.proofs.tables.make_pair.Goals as goal

pub bring-requires : goal.bring-requires
bring-requires c = a-unnamed c.args.tables.now c.requires.sound c.args.home.0 c.args.unit c.in-Ok.number c.requires.living
    (subst (IsRefusedBy (create_refusal c.args.home.0 c.args.unit c.args.tables.now.pairs)) c.in-Ok.is c.in_ok-number.ensures.answer) (sym c.is_taken.ensures ∙ c.if-is_taken.false)
    (subst (λ a. IfOk a (λ n. n ≡ length c.args.tables.now.pairs)) c.in-Ok.is c.in_ok-number.ensures.number)

pub bring-requires-2 : goal.bring-requires-2
bring-requires-2 c = b-unnamed c.args.tables.now c.requires.sound c.args.home.0 c.args.unit c.in-Ok.number c.requires.living
    (subst (IsRefusedBy (create_refusal c.args.home.0 c.args.unit c.args.tables.now.pairs)) c.in-Ok.is c.in_ok-number.ensures.answer) (sym c.is_taken.ensures ∙ c.if-is_taken.false)
    (subst (λ a. IfOk a (λ n. n ≡ length c.args.tables.now.pairs)) c.in-Ok.is c.in_ok-number.ensures.number)
    c.bring.new.ifs c.in_ok-bring.ensures.attached

pub returns-clause-made : goal.returns-clause-made
returns-clause-made c = makes c.args.tables.now c.requires.sound c.args.home.0 c.args.unit c.in-Ok.number c.requires.living
    (subst (IsRefusedBy (create_refusal c.args.home.0 c.args.unit c.args.tables.now.pairs)) c.in-Ok.is c.in_ok-number.ensures.answer) (sym c.is_taken.ensures ∙ c.if-is_taken.false)
    (subst (λ a. IfOk a (λ n. n ≡ length c.args.tables.now.pairs)) c.in-Ok.is c.in_ok-number.ensures.number)
    c.create.new.self (subst (λ a. OnOk a (c.create.new.self ≡ c.args.tables.now.pairs ++ Some (new_pair c.args.home.0 c.args.unit) ∷ [])) c.in-Ok.is c.in_ok-number.ensures.created)
    c.bring.new.ifs c.bring-2.new.ifs c.in_ok-bring.ensures.attached c.in_ok-bring-2.ensures.attached c.in_ok-bring.ensures.reserved c.in_ok-bring-2.ensures.reserved

pub returns-clause-answer : goal.returns-clause-answer
returns-clause-answer c = making-as_created c.args.tables.now c.args.home.0 c.args.unit (sym c.is_taken.ensures ∙ c.if-is_taken.false)
    ∙ subst (IsRefusedBy (create_refusal c.args.home.0 c.args.unit c.args.tables.now.pairs)) c.in-Ok.is c.in_ok-number.ensures.answer
