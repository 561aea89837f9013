use Rattle.std.proofs.Common.{◌≡◌, true}
use Rattle.vn_rules.specs.Orders.{are_routes}
use Rattle.vn_rules.proofs.RouteRemoval.{are_routes-kept}
use Rattle.vn_route.proofs.fib.Fib.unlink.Goals as goal

pub drop_stranded-requires : goal.drop_stranded-requires
drop_stranded-requires c = rw c.drop_link.ensures (are_routes-kept _ _ c.self.invariant)

pub invariant_of-self : goal.invariant_of-self
invariant_of-self c =
    let right : are_routes c.drop_link.new.routes.entries ≡ true = rw c.drop_link.ensures (are_routes-kept _ _ c.self.invariant) in
    rw c.drop_stranded.ensures (are_routes-kept _ _ right)
