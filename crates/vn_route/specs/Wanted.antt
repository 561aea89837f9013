-- Which routes a look-up looks at.
use Rattle.std.specs.Prelude.{Bool, true}
use Rattle.vn_types.specs.declared.interface.HalfId.{HalfId}
use Rattle.vn_types.specs.Interfaces.{half_id_eq}
use Rattle.vn_rules.specs.declared.route.TargetOf.{TargetOf}
use Rattle.vn_rules.specs.Routes.{is_link, is_link_on}
use Rattle.vn_route.specs.declared.wanted.Wanted.{Wanted}
use Rattle.vn_route.specs.declared.wanted.Wanted.TheVariants.{Any, Links, LinksOn}

-- whether a route that leads there is looked at
abbrev pub is_wanted : Wanted → TargetOf HalfId → Bool
is_wanted Any target = true
is_wanted Links target = is_link target
is_wanted (LinksOn on) target = is_link_on half_id_eq on target
