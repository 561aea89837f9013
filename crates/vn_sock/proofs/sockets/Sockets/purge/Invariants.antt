use Rattle.vn_rules.specs.Sockets.{unheard}
use Rattle.vn_types.specs.Interfaces.{half_id_eq}
use Rattle.vn_sock.proofs.Loops.{AreChanged}
use Rattle.vn_sock.proofs.sockets.Sockets.purge.Given as goal

-- the sockets so far are changed
abbrev pub invariant-loop-socket : goal.invariant-loop-socket
invariant-loop-socket l = AreChanged (unheard half_id_eq l.via) l.initial.socket-items l.socket-items l.socket-index
