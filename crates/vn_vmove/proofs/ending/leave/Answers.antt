use Rattle.std.proofs.Common.{sym, ap, ap₂, ◌∙◌}
use Rattle.vn_types.specs.declared.interface.IfName.TheVariants.{Epair}
use Rattle.vn_epair.specs.Pairs.{new_pair, of as number_of}
use Rattle.vn_ifnet.specs.Stacks.{of as held_of, reserved_by}
use Rattle.vn_vmove.specs.Places.{left, let_go}
use Rattle.vn_vmove.proofs.Carried.{leave-attached, leave-reserved}
use Rattle.vn_vmove.proofs.Steps.{name-some}
use Rattle.vn_vmove.proofs.ending.leave.Goals as goal

pub returns-clause-attached : goal.returns-clause-attached
returns-clause-attached c = λ q.
    leave-attached c.args.half c.stands.result.0 c.args.ifs.now c.detach.new.self c.detach.ensures.detached c.detach.ensures.others
    c.home.result.0 (Epair c.unit.result c.args.half.side) c.release_name.new.self
    c.release_name.ensures.released c.release_name.ensures.names c.release_name.ensures.attached c.release_name.ensures.others q
    ∙ ap (λ r. left c.args.half r q (held_of c.args.ifs.now q).attached) c.stands.ensures

pub returns-clause-reserved : goal.returns-clause-reserved
returns-clause-reserved c = λ q name.
    leave-reserved c.args.half c.stands.result.0 c.args.ifs.now c.detach.new.self c.detach.ensures.detached c.detach.ensures.others
    c.home.result.0 (Epair c.unit.result c.args.half.side) c.release_name.new.self
    c.release_name.ensures.released c.release_name.ensures.names c.release_name.ensures.attached c.release_name.ensures.others q name
    ∙ ap₂ (λ own home. let_go own home q name (reserved_by name (held_of c.args.ifs.now q)))
    (ap (λ u. Epair u c.args.half.side) c.unit.ensures.unit ∙ sym (name-some (number_of c.args.pairs.now c.args.half.pair) (new_pair 0 0) c.args.half.side c.requires))
    c.home.ensures
