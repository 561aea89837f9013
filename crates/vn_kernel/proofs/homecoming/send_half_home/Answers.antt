use Rattle.vn_kernel.specs.Fields.{fields}
use Rattle.vn_kernel.proofs.removing.Homing.{both-ok, comes-home}
use Rattle.vn_kernel.proofs.homecoming.send_half_home.Goals as goal

pub returns : goal.returns
returns c =
    both-ok c.send_home.result (comes-home (fields c.args.state.now) c.requires.stands c.args.half c.requires.exists c.send_home.new.tables) c.send_home.ensures.moved c.send_home.ensures.sound
