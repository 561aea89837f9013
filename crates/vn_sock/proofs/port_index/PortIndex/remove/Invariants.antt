use Rattle.vn_sock.specs.Ports.{moved_up}
use Rattle.vn_sock.proofs.Loops.{AreChanged}
use Rattle.vn_sock.proofs.port_index.PortIndex.remove.Given as goal

-- those so far have their new places
abbrev pub invariant-loop-bound : goal.invariant-loop-bound
invariant-loop-bound l = AreChanged (moved_up l.place) l.initial.bound-items l.bound-items l.bound-index
