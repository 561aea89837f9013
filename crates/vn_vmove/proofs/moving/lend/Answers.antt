use Rattle.std.proofs.Common.{Some, refl, sym, ◌∙◌, subst}
use Rattle.vn_vmove.specs.Nets.{Becomes, net_of}
use Rattle.vn_vmove.proofs.Names.{found-stands, lent-free}
use Rattle.vn_vmove.proofs.Refused.{moved_on-half}
use Rattle.vn_vmove.proofs.moving.lend.Goals as goal

pub transfer-requires-clause-stands : goal.transfer-requires-clause-stands
transfer-requires-clause-stands c = (found-stands c.requires.sound c.args.from.0 c.args.name c.in-Ok.half c.in-Ok.ensures.found).0

pub transfer-requires-clause-named : goal.transfer-requires-clause-named
transfer-requires-clause-named c = (found-stands c.requires.sound c.args.from.0 c.args.name c.in-Ok.half c.in-Ok.ensures.found).1

pub transfer-requires-clause-free : goal.transfer-requires-clause-free
transfer-requires-clause-free c =
    lent-free c.requires.sound c.args.from.0 c.in-Some.to.0 c.args.name c.in-Ok.half c.in-Ok.ensures.found (sym c.taken.ensures ∙ c.if-taken.false)

pub returns-clause-moved : goal.returns-clause-moved
returns-clause-moved c =
    subst (λ net. Becomes net c.args.tables.now c.transfer.new.tables)
    (sym (moved_on-half _ (Some c.args.from) c.args.to c.in-Ok.half c.args.from c.in-Some.to (net_of c.args.tables.now) c.in-Ok.ensures.found refl c.in-Some.is))
    c.in_ok-transfer.ensures.moved
