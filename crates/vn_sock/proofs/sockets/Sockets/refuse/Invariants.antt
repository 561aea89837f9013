use Rattle.std.proofs.Common.{◌≡◌, count_by, map}
use Rattle.vn_sock.specs.Kept.{is_to_refuse, refused}
use Rattle.vn_sock.proofs.sockets.Sockets.refuse.Given as goal

-- those that are marked so far would be marked at the end
abbrev pub invariant-loop-place : goal.invariant-loop-place
invariant-loop-place l = map (refused l.ends.src l.ends.sport l.ends.dst l.ends.dport) l.self ≡ map (refused l.ends.src l.ends.sport l.ends.dst l.ends.dport) l.initial.self

-- those that are left to mark
abbrev pub decreases-loop-place : goal.decreases-loop-place
decreases-loop-place l = count_by (is_to_refuse l.ends.src l.ends.sport l.ends.dst l.ends.dport) l.self
