use Rattle.std.proofs.Common.{arith, ap, length}
use Rattle.vn_rules.specs.Sockets.{unbound}
use Rattle.vn_sock.proofs.Loops.{changed-at}
use Rattle.vn_sock.proofs.sockets.Sockets.unbind.Goals as goal

pub loop-place-preserved : goal.loop-place-preserved
loop-place-preserved c =
    changed-at (unbound c.args.ip) c.args.self.now c.loop-place.self c.unbind_at.new.self c.loop-place.place c.loop-place.invariant (omega (arith, c.loop-place.invariant.as_many, ap length c.self.view_is)) c.unbind_at.ensures
