-- The route that users get is the longest that covers the address.
use Rattle.std.proofs.Common.{◌≡◌, true, false, List, Option, Some, None, ap}
use Rattle.std.specs.List.{All}
use Rattle.std.specs.Option.{IfSome, IfNone, option_map}
use Rattle.vn_types.specs.declared.address.Ip4.{Ip4}
use Rattle.vn_types.specs.declared.interface.HalfId.{HalfId}
use Rattle.vn_rules.specs.Orders.{are_routes}
use Rattle.vn_rules.specs.Routes.{Routed, covers_ip, lookup, IsLongest}
use Rattle.vn_rules.proofs.RouteChoice.{lookup-longest, lookup-none, lookup-only}
use Rattle.vn_route.specs.declared.route.Route.{Route}
use Rattle.vn_route.specs.Lengths.{as_route}

module _ (ip : Ip4) (routes : List (Routed HalfId)) where
  pub choice-longest : IfSome (option_map as_route (lookup ip routes)) (λ (r : Route). IsLongest ip routes (r.to, r.target))
  choice-longest = by (lookup ip routes) (lookup-longest ip routes)
    where
      by : (o : Option (Routed HalfId)) → IfSome o (IsLongest ip routes) → IfSome (option_map as_route o) (λ (r : Route). IsLongest ip routes (r.to, r.target))
      by None is = is
      by (Some e) is = is

  pub choice-none : IfNone (option_map as_route (lookup ip routes)) (All (λ (e : Routed HalfId). covers_ip ip e ≡ false) routes)
  choice-none = by (lookup ip routes) (lookup-none ip routes)
    where
      by : (o : Option (Routed HalfId)) → IfNone o (All (λ (e : Routed HalfId). covers_ip ip e ≡ false) routes) → IfNone (option_map as_route o) (All (λ (e : Routed HalfId). covers_ip ip e ≡ false) routes)
      by None is = is
      by (Some e) is = is

  pub choice-only : are_routes routes ≡ true → (e : Routed HalfId) → IsLongest ip routes e → option_map as_route (lookup ip routes) ≡ Some (as_route e)
  choice-only right e is = ap (option_map as_route) (lookup-only ip routes right e is)
