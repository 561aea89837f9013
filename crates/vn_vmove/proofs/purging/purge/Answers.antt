use Rattle.vn_types.specs.Interfaces.{half_id_eq}
use Rattle.vn_types.proofs.InterfaceNames.{half_id_eq-Decides}
use Rattle.vn_rules.specs.Purge.{purged}
use Rattle.vn_rules.proofs.Purged.{purged-sound}
use Rattle.vn_vmove.proofs.Addressed.{purged-leaves}
use Rattle.vn_vmove.proofs.Founded.{purged-bare}
use Rattle.vn_vmove.proofs.Leaving.{leaves-becomes, leaves-sound}
use Rattle.vn_vmove.proofs.purging.purge.Goals as goal

pub forget_half-requires : goal.forget_half-requires
forget_half-requires c = c.drop_addresses.ensures.arms c.args.sid.0 (c.requires.arms c.args.sid.0)

pub returns-clause-purged : goal.returns-clause-purged
returns-clause-purged c = leaves-becomes (purged half_id_eq c.args.half) c.args.sid.0 c.args.tables.now c.forget_half.new.tables (purged-leaves c.args.half c.args.sid.0 c.args.tables.now c.drop_addresses.new.tables c.forget_half.new.tables c.drop_addresses.ensures c.forget_half.ensures)

pub returns-clause-rest : goal.returns-clause-rest
returns-clause-rest c = (purged-leaves c.args.half c.args.sid.0 c.args.tables.now c.drop_addresses.new.tables c.forget_half.new.tables c.drop_addresses.ensures c.forget_half.ensures).rest

pub returns-clause-sound : goal.returns-clause-sound
returns-clause-sound c =
    leaves-sound (purged half_id_eq c.args.half) c.args.sid.0 c.args.tables.now c.forget_half.new.tables (purged-leaves c.args.half c.args.sid.0 c.args.tables.now c.drop_addresses.new.tables c.forget_half.new.tables c.drop_addresses.ensures c.forget_half.ensures) (λ p. purged-sound half_id_eq c.args.half p half_id_eq-Decides) (purged-bare c.args.half) c.requires
