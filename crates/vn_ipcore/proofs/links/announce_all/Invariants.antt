use Rattle.std.proofs.Common.{◌-◌, length}
use Rattle.vn_vmove.specs.Parts.{parts}
use Rattle.vn_ipcore.proofs.Announced.{IsOnWay}
use Rattle.vn_ipcore.proofs.links.announce_all.Given as goal

abbrev pub invariant-loop-addr : goal.invariant-loop-addr
invariant-loop-addr l = IsOnWay l.sid.0 l.half l.place l.fn.tables l.tables

abbrev pub decreases-loop-addr : goal.decreases-loop-addr
decreases-loop-addr l = length (parts l.tables l.sid.0).addresses - l.place
