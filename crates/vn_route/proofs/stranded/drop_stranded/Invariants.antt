use Rattle.std.proofs.Common.{◌≡◌, ◌&&◌, true, find, length}
use Rattle.vn_types.specs.Interfaces.{half_id_eq}
use Rattle.vn_rules.specs.Orders.{are_routes}
use Rattle.vn_rules.specs.Routes.{is_stranded, without_stranded}
use Rattle.vn_route.specs.Behind.{is_behind}
use Rattle.vn_route.proofs.stranded.drop_stranded.Given as goal

-- what is to stay is there, and what is to go stands behind the last one
abbrev pub invariant-loop-to : goal.invariant-loop-to
invariant-loop-to l = record {
  right : are_routes l.routes.entries ≡ true;
  left : without_stranded half_id_eq l.on l.routes.entries ≡ without_stranded half_id_eq l.on l.initial.routes.entries;
  next : find (λ e. is_stranded half_id_eq l.on l.routes.entries e.1) l.routes.entries ≡ find (λ e. is_behind l.last e.0 && is_stranded half_id_eq l.on l.routes.entries e.1) l.routes.entries;
}

abbrev pub decreases-loop-to : goal.decreases-loop-to
decreases-loop-to l = length l.routes.entries
