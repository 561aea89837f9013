use Rattle.vn_rules.proofs.RouteEdits.{are_routes-none}
use Rattle.vn_route.proofs.fib.FibEmpty.empty.Goals as goal

pub invariant_of-result : goal.invariant_of-result
invariant_of-result c = are_routes-none _ c.new.ensures.empty
