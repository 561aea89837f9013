use Rattle.std.proofs.Common.{OnOk, sym, subst}
use Rattle.vn_vmove.specs.Nets.{Becomes, net_of}
use Rattle.vn_vmove.proofs.Refused.{half-free, half-named, half-stands, home-lives, homeward-moved}
use Rattle.vn_vmove.proofs.moving.send_home.Goals as goal

pub transfer-requires-clause-stands : goal.transfer-requires-clause-stands
transfer-requires-clause-stands c = half-stands c.requires.sound c.args.half c.requires.exists c.stands-from.result.0 c.stands-from.ensures

pub transfer-requires-clause-living : goal.transfer-requires-clause-living
transfer-requires-clause-living c = home-lives c.requires.sound c.args.half c.requires.exists c.home-home.result.0 c.home-home.ensures

pub transfer-requires-clause-named : goal.transfer-requires-clause-named
transfer-requires-clause-named c = half-named c.requires.sound c.args.half c.requires.exists c.unit.result c.unit.ensures.unit

pub transfer-requires-clause-free : goal.transfer-requires-clause-free
transfer-requires-clause-free c = half-free c.requires.sound c.args.half c.requires.exists c.home-home.result.0 c.home-home.ensures

pub returns-clause-moved : goal.returns-clause-moved
returns-clause-moved c =
    subst (λ net. OnOk c.transfer.result (Becomes net c.args.tables.now c.transfer.new.tables))
    (sym (homeward-moved c.requires.sound c.args.half c.requires.exists c.stands-from.result.0 c.home-home.result.0 (net_of c.args.tables.now) c.stands-from.ensures c.home-home.ensures))
    c.transfer.ensures.moved
