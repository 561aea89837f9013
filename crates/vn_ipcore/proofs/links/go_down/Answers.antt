use Rattle.std.proofs.Common.{false, refl}
use Rattle.vn_ipcore.proofs.Up.{replaces_by_down}
use Rattle.vn_ipcore.proofs.links.go_down.Goals as goal

pub returns : goal.returns
returns c =
    replaces_by_down c.requires.sound c.args.sid.0 c.args.half c.requires.stands c.set_up.new.self false
    c.set_up.ensures.up c.set_up.ensures.others c.set_up.ensures.numbers refl
