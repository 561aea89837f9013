use Rattle.std.proofs.lemmas.Result.{on_ok_weaker}
use Rattle.vn_types.specs.declared.interface.IfName.TheVariants.{Epair}
use Rattle.vn_kernel.proofs.making.Brought.{brought-attached, brought-reserved}
use Rattle.vn_kernel.proofs.tables.bring.Goals as goal

pub returns-clause-attached : goal.returns-clause-attached
returns-clause-attached c = on_ok_weaker c.reserve_name.result
    (λ _. brought-attached c.args.half c.args.home.0 (Epair c.args.unit c.args.half.side) c.args.ifs.now c.attach.new.self c.reserve_name.new.self
    c.in_ok-attach.ensures.attached c.attach.ensures.others c.reserve_name.ensures.attached c.reserve_name.ensures.others)
    c.reserve_name.ensures.reserved

pub returns-clause-reserved : goal.returns-clause-reserved
returns-clause-reserved c = on_ok_weaker c.reserve_name.result
    (λ kept. brought-reserved c.args.half c.args.home.0 (Epair c.args.unit c.args.half.side) c.args.ifs.now c.attach.new.self c.reserve_name.new.self
    c.in_ok-attach.ensures.attached c.attach.ensures.others c.reserve_name.ensures.attached c.reserve_name.ensures.others kept c.reserve_name.ensures.names)
    c.reserve_name.ensures.reserved
