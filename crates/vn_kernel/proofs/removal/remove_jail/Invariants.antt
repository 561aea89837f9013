use Rattle.std.proofs.Common.{drop}
use Rattle.vn_kernel.specs.Fields.{fields}
use Rattle.vn_kernel.proofs.removing.Removed.{Tearing}
use Rattle.vn_kernel.proofs.removal.remove_jail.Given as goal

-- the stacks to come are those that live there still
abbrev pub invariant-loop-sid : goal.invariant-loop-sid
invariant-loop-sid l = Tearing l.fn.jail (drop l.sid-index l.sid-items) (fields l.initial.state) (fields l.state)
