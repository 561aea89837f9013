use Rattle.std.proofs.Common.{Some, refl, sym, ap, ◌∙◌, subst}
use Rattle.vn_vmove.specs.Moves.{standing}
use Rattle.vn_vmove.specs.Nets.{Becomes, net_of}
use Rattle.vn_vmove.proofs.Names.{found-stands, reclaimed-free}
use Rattle.vn_vmove.proofs.Refused.{kept-is, moved_on-half, reclaim-done, reclaim-kept}
use Rattle.vn_vmove.proofs.moving.reclaim.Goals as goal

pub returns-then-is_kept-clause-answer : goal.returns-then-is_kept-clause-answer
returns-then-is_kept-clause-answer c =
    reclaim-kept c.args.tables.now c.args.to c.args.from c.args.name c.args.home_allows c.in-Some.from c.in-Some.is c.in-Ok.half c.in-Ok.ensures.found c.if-not-home_allows.false
    (kept-is c.requires.sound c.args.name c.in-Ok.half c.in-Some.from.0 c.args.to.0 c.in-Ok.ensures.found c.is_kept.result c.is_kept.ensures.same c.is_kept.ensures.other ∙ c.if-is_kept.true)

pub transfer-requires-clause-stands : goal.transfer-requires-clause-stands
transfer-requires-clause-stands c = (found-stands c.requires.sound c.in-Some.from.0 c.args.name c.in-Ok.half c.in-Ok.ensures.found).0

pub transfer-requires-clause-named : goal.transfer-requires-clause-named
transfer-requires-clause-named c = (found-stands c.requires.sound c.in-Some.from.0 c.args.name c.in-Ok.half c.in-Ok.ensures.found).1

pub transfer-requires-clause-free : goal.transfer-requires-clause-free
transfer-requires-clause-free c =
    reclaimed-free c.requires.sound c.in-Some.from.0 c.args.to.0 c.args.name c.in-Ok.half c.in-Ok.ensures.found
    (kept-is c.requires.sound c.args.name c.in-Ok.half c.in-Some.from.0 c.args.to.0 c.in-Ok.ensures.found c.is_kept.result c.is_kept.ensures.same c.is_kept.ensures.other ∙ c.if-is_kept.false)

pub returns-clause-answer : goal.returns-clause-answer
returns-clause-answer c =
    reclaim-done c.args.tables.now c.args.to c.args.from c.args.name c.args.home_allows c.in-Some.from c.in-Some.is c.in-Ok.half c.in-Ok.ensures.found c.if-not-home_allows.false
    (kept-is c.requires.sound c.args.name c.in-Ok.half c.in-Some.from.0 c.args.to.0 c.in-Ok.ensures.found c.is_kept.result c.is_kept.ensures.same c.is_kept.ensures.other ∙ c.if-is_kept.false)

pub returns-clause-moved : goal.returns-clause-moved
returns-clause-moved c =
    subst (λ net. Becomes net c.args.tables.now c.transfer.new.tables)
    (sym (moved_on-half (standing c.args.tables.now c.args.name c.args.from) c.args.from (Some c.args.to) c.in-Ok.half c.in-Some.from c.args.to (net_of c.args.tables.now)
    (ap (standing c.args.tables.now c.args.name) c.in-Some.is ∙ c.in-Ok.ensures.found) c.in-Some.is refl))
    c.in_ok-transfer.ensures.moved
