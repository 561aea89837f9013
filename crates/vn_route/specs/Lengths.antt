-- The search for a route by falling length: one look-up for each length.
use Rattle.std.specs.Prelude.{ℕ, zero, suc, Bool, List, Option, Some, None, if◌then◌else◌}
use Rattle.std.specs.Option.{option_or}
use Rattle.vn_types.specs.declared.address.Ip4.{Ip4}
use Rattle.vn_types.specs.declared.address.Prefix.{Prefix}
use Rattle.vn_types.specs.declared.interface.HalfId.{HalfId}
use Rattle.vn_rules.specs.declared.route.TargetOf.{TargetOf}
use Rattle.vn_rules.specs.Networks.{network_of}
use Rattle.vn_rules.specs.Routes.{Routed, route_at}
use Rattle.vn_route.specs.declared.route.Route.{Route}

-- a route, as users get it
abbrev pub as_route : Routed HalfId → Route
as_route e = record { to = e.0; target = e.1 }

module _ {N : Type 0} (test : TargetOf N → Bool) (ip : Ip4) where
  -- the network of that length in which the address lies
  abbrev pub network_at : ℕ → Prefix
  network_at len = record { net = network_of ip len; len = len }

  -- the route that leads there, if it passes the test
  abbrev pub passing : Prefix → Option (TargetOf N) → Option (Routed N)
  passing to None = None
  passing to (Some target) = if test target then Some (to, target) else None

  -- the route of that length to the address
  abbrev pub of_length : List (Routed N) → ℕ → Option (Routed N)
  of_length routes len = passing (network_at len) (route_at (network_at len) routes)

  -- the longest of the routes to the address that are shorter than that
  unfoldable pub shorter_than : List (Routed N) → ℕ → Option (Routed N)
  shorter_than routes zero = None
  shorter_than routes (suc len) = option_or (of_length routes len) (shorter_than routes len)
