use Rattle.vn_rules.specs.Sockets.{unbound}
use Rattle.vn_sock.proofs.Loops.{AreChanged}
use Rattle.vn_sock.proofs.sockets.Sockets.unbind.Given as goal

-- the sockets so far are changed
abbrev pub invariant-loop-place : goal.invariant-loop-place
invariant-loop-place l = AreChanged (unbound l.ip) l.initial.self l.self l.place
