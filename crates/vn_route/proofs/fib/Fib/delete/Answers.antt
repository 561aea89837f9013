use Rattle.vn_rules.proofs.RouteEdits.{are_routes-remove}
use Rattle.vn_route.proofs.fib.Fib.delete.Goals as goal

pub invariant_of-self : goal.invariant_of-self
invariant_of-self c = rw c.remove.ensures.entries (are_routes-remove _ _ c.self.invariant)
