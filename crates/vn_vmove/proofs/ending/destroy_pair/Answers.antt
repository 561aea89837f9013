use Rattle.vn_vmove.proofs.Steps.{end-becomes, end-reserved, end-sound, still-some}
use Rattle.vn_vmove.proofs.ending.destroy_pair.Goals as goal

pub leave-requires : goal.leave-requires
leave-requires c = still-some c.args.tables.now c.purge.new.tables c.purge-2.new.tables c.purge-2.ensures.sound c.args.pair c.requires.exists c.stands-at.result.0 c.stands-at-2.result.0
    c.stands-at.ensures c.stands-at-2.ensures c.purge.ensures.purged c.purge-2.ensures.purged

pub leave-requires-2 : goal.leave-requires-2
leave-requires-2 c = still-some c.args.tables.now c.purge.new.tables c.purge-2.new.tables c.purge-2.ensures.sound c.args.pair c.requires.exists c.stands-at.result.0 c.stands-at-2.result.0
    c.stands-at.ensures c.stands-at-2.ensures c.purge.ensures.purged c.purge-2.ensures.purged

pub destroy-requires : goal.destroy-requires
destroy-requires c = still-some c.args.tables.now c.purge.new.tables c.purge-2.new.tables c.purge-2.ensures.sound c.args.pair c.requires.exists c.stands-at.result.0 c.stands-at-2.result.0
    c.stands-at.ensures c.stands-at-2.ensures c.purge.ensures.purged c.purge-2.ensures.purged

pub returns-clause-destroyed : goal.returns-clause-destroyed
returns-clause-destroyed c = end-becomes c.args.tables.now c.purge.new.tables c.purge-2.new.tables c.purge-2.ensures.sound c.args.pair c.requires.exists c.stands-at.result.0 c.stands-at-2.result.0
    c.stands-at.ensures c.stands-at-2.ensures c.purge.ensures.purged c.purge-2.ensures.purged c.leave.new.ifs c.leave-2.new.ifs c.destroy.new.self
    c.leave.ensures.attached c.leave-2.ensures.attached c.leave.ensures.reserved c.leave-2.ensures.reserved c.destroy.ensures.destroyed c.destroy.ensures.others c.destroy.ensures.numbers

pub returns-clause-reserved : goal.returns-clause-reserved
returns-clause-reserved c = end-reserved c.args.tables.now c.purge.new.tables c.purge-2.new.tables c.purge-2.ensures.sound c.args.pair c.requires.exists c.stands-at.result.0 c.stands-at-2.result.0
    c.stands-at.ensures c.stands-at-2.ensures c.purge.ensures.purged c.purge-2.ensures.purged c.leave.new.ifs c.leave-2.new.ifs c.destroy.new.self
    c.leave.ensures.attached c.leave-2.ensures.attached c.leave.ensures.reserved c.leave-2.ensures.reserved c.destroy.ensures.destroyed c.destroy.ensures.others c.purge.ensures.rest c.purge-2.ensures.rest

pub returns-clause-sound : goal.returns-clause-sound
returns-clause-sound c = end-sound c.args.tables.now c.purge.new.tables c.purge-2.new.tables c.purge-2.ensures.sound c.args.pair c.requires.exists c.stands-at.result.0 c.stands-at-2.result.0
    c.stands-at.ensures c.stands-at-2.ensures c.purge.ensures.purged c.purge-2.ensures.purged c.leave.new.ifs c.leave-2.new.ifs c.destroy.new.self
    c.leave.ensures.attached c.leave-2.ensures.attached c.leave.ensures.reserved c.leave-2.ensures.reserved c.destroy.ensures.destroyed c.destroy.ensures.others
