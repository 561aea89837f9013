use Rattle.std.proofs.Common.{length}
use Rattle.vn_ipcore.proofs.Resolved.{IsSending}
use Rattle.vn_ipcore.proofs.resolving.send_all.Given as goal

abbrev pub invariant-loop-datagram : goal.invariant-loop-datagram
invariant-loop-datagram l = IsSending l.sid.0 l.half l.to l.fn.packets l.packets l.fn.tables l.tables

abbrev pub decreases-loop-datagram : goal.decreases-loop-datagram
decreases-loop-datagram l = length l.packets
