use Rattle.vn_vmove.proofs.Carried.{put_down-placed}
use Rattle.vn_vmove.proofs.moving.put_down.Goals as goal

pub returns-clause-placed : goal.returns-clause-placed
returns-clause-placed c =
    put_down-placed c.args.half c.args.to.0 c.args.pairs.now c.clear.new.self c.set_stands.new.self c.set_up.new.self
    c.clear.ensures.emptied c.set_stands.ensures.stands c.set_up.ensures.up
