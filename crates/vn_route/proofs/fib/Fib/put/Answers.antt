use Rattle.std.proofs.Common.{rules}
use Rattle.vn_rules.proofs.RouteEdits.{are_routes-insert}
use Rattle.vn_route.proofs.fib.Fib.put.Goals as goal

pub invariant_of-self-2 : goal.invariant_of-self-2
invariant_of-self-2 c = rw c.in_ok-insert.ensures.entries (are_routes-insert _ _ _ (search rules) c.self.invariant)
