use Rattle.std.proofs.Common.{Result, Ok, Err, OnOk}
use Rattle.vn_vmove.proofs.Carried.{carry-attached, carry-missed, carry-reserved}
use Rattle.vn_vmove.proofs.moving.carry.Goals as goal

pub attach-requires : goal.attach-requires
attach-requires c = carry-missed c.args.half c.args.from.0 c.args.ifs.now c.detach.new.self c.detach.ensures.detached c.detach.ensures.others c.args.to.0 c.args.name c.requires

on_ok : {A E : Type 0} (r : Result A E) (P Q : Type 0) → (P → Q) → OnOk r P → OnOk r Q
on_ok (Ok x) P Q f holds = f holds
on_ok (Err e) P Q f holds = holds

pub returns-clause-attached : goal.returns-clause-attached
returns-clause-attached c = on_ok c.attach.result _ _
    (λ put q. carry-attached c.args.half c.args.from.0 c.args.ifs.now c.detach.new.self c.detach.ensures.detached c.detach.ensures.others c.args.to.0 c.args.name c.attach.new.self
    put c.attach.ensures.others q)
    c.attach.ensures.attached

pub returns-clause-reserved : goal.returns-clause-reserved
returns-clause-reserved c = on_ok c.attach.result _ _
    (λ put q. carry-reserved c.args.half c.args.from.0 c.args.ifs.now c.detach.new.self c.detach.ensures.detached c.detach.ensures.others c.args.to.0 c.args.name c.attach.new.self
    put c.attach.ensures.others q)
    c.attach.ensures.attached
