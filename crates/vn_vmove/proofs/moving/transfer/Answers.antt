use Rattle.vn_vmove.proofs.Steps.{carry-free, pair-there, transfer-becomes, transfer-reserved, transfer-sound}
use Rattle.vn_vmove.proofs.moving.transfer.Goals as goal

pub carry-requires : goal.carry-requires
carry-requires c = carry-free c.args.tables.now c.purge.new.tables c.purge.ensures.sound c.args.half c.args.name c.args.from.0 c.args.to.0 c.purge.ensures.purged
    c.requires.stands c.requires.living c.requires.named c.requires.free

pub put_down-requires : goal.put_down-requires
put_down-requires c = pair-there c.args.tables.now c.purge.new.tables c.purge.ensures.sound c.args.half c.args.name c.args.from.0 c.args.to.0 c.purge.ensures.purged
    c.requires.stands c.requires.living c.requires.named c.requires.free

pub returns-clause-moved : goal.returns-clause-moved
returns-clause-moved c = transfer-becomes c.args.tables.now c.purge.new.tables c.purge.ensures.sound c.args.half c.args.name c.args.from.0 c.args.to.0 c.purge.ensures.purged
    c.requires.stands c.requires.living c.requires.named c.requires.free c.carry.new.ifs c.put_down.new.pairs
    c.in_ok-carry.ensures.attached c.in_ok-carry.ensures.reserved c.put_down.ensures.placed c.put_down.ensures.others c.put_down.ensures.numbers

pub returns-clause-reserved : goal.returns-clause-reserved
returns-clause-reserved c = transfer-reserved c.args.tables.now c.purge.new.tables c.purge.ensures.sound c.args.half c.args.name c.args.from.0 c.args.to.0 c.purge.ensures.purged
    c.requires.stands c.requires.living c.requires.named c.requires.free c.carry.new.ifs c.put_down.new.pairs
    c.in_ok-carry.ensures.attached c.in_ok-carry.ensures.reserved c.put_down.ensures.placed c.put_down.ensures.others c.purge.ensures.rest

pub returns-clause-sound : goal.returns-clause-sound
returns-clause-sound c = transfer-sound c.args.tables.now c.purge.new.tables c.purge.ensures.sound c.args.half c.args.name c.args.from.0 c.args.to.0 c.purge.ensures.purged
    c.requires.stands c.requires.living c.requires.named c.requires.free c.carry.new.ifs c.put_down.new.pairs
    c.in_ok-carry.ensures.attached c.in_ok-carry.ensures.reserved c.put_down.ensures.placed c.put_down.ensures.others
