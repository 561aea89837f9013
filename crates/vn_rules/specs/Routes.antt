-- The routes of a stack, each under the prefix that it leads to (route(8)).
use Rattle.std.specs.Prelude.{◌≡◌, ℕ, ◌≤◌, nat_lt, Bool, true, false, not, ◌&&◌, List, [], ◌∷◌, All, Contains, slice_get, Option, Some, None, is_some, is_none, if◌then◌else◌}
use Rattle.std.specs.List.{list_any, filter}
use Rattle.std.specs.Option.{option_map, option_map_or}
use Rattle.std.specs.Ordering.{nat_cmp, ordering_then}
use Rattle.std.specs.declared.cmp.Ordering.{Ordering}
use Rattle.std.specs.Map.{lookup as value_at, remove_entry}
use Rattle.std.specs.BTreeMap.{is_at, insert_entry}
use Rattle.vn_types.specs.declared.address.Ip4.{Ip4}
use Rattle.vn_types.specs.declared.address.Prefix.{Prefix}
use Rattle.vn_types.specs.declared.errno.Errno.{Errno}
use Rattle.vn_types.specs.declared.errno.Errno.TheVariants.{Exist, NetUnreach, Srch}
use Rattle.vn_types.specs.declared.interface.IfOf.{IfOf}
use Rattle.vn_types.specs.declared.interface.IfOf.TheVariants.{Lo0, Half}
use Rattle.vn_types.specs.Interfaces.{if_same}
use Rattle.vn_types.specs.Refusals.{first_refusal}
use Rattle.vn_rules.specs.declared.route.TargetOf.{TargetOf}
use Rattle.vn_rules.specs.declared.route.TargetOf.TheVariants.{Link, Gateway}
use Rattle.vn_rules.specs.Networks.{lies_in}

-- a target under its prefix
abbrev pub Routed : Type 0 → Type 0
Routed N = Prefix × TargetOf N

-- by network, and by length where two have one network
abbrev pub prefix_cmp : Prefix → Prefix → Ordering
prefix_cmp a b = ordering_then (nat_cmp a.net.0 b.net.0) (nat_cmp a.len b.len)

module _ {N : Type 0} where
  -- the interface of a target
  abbrev pub target_if : TargetOf N → IfOf N
  target_if (Link on) = on
  target_if (Gateway via on) = Half on

  -- whether it is an interface route's
  abbrev pub is_link : TargetOf N → Bool
  is_link (Link on) = true
  is_link (Gateway via half) = false

  -- where the route to a prefix leads
  abbrev pub route_at : Prefix → List (Routed N) → Option (TargetOf N)
  route_at to routes = value_at (is_at (prefix_cmp to)) routes

  -- the route at a place, counted from 0
  abbrev pub nth_route : ℕ → List (Routed N) → Option (Routed N)
  nth_route place routes = slice_get routes place

  -- ---- the route that is chosen

  -- whether the route covers the address
  abbrev pub covers_ip : Ip4 → Routed N → Bool
  covers_ip ip e = lies_in ip e.0

  -- the longer of two, and the first where they are equally long
  abbrev pub longer : Routed N → Option (Routed N) → Routed N
  longer e None = e
  longer e (Some f) = if nat_lt e.0.len f.0.len then f else e

  -- the longest of some routes
  abbrev pub longest : List (Routed N) → Option (Routed N)
  longest [] = None
  longest (e ∷ es) = Some (longer e (longest es))

  -- the longest route that covers the address (RFC 1812, section 5.2.4.3), among those whose targets pass
  -- the test
  abbrev pub longest_among : (TargetOf N → Bool) → Ip4 → List (Routed N) → Option (Routed N)
  longest_among test ip routes = longest (filter (λ (e : Routed N). test e.1 && covers_ip ip e) routes)

  -- the longest route that covers the address
  abbrev pub lookup : Ip4 → List (Routed N) → Option (Routed N)
  lookup ip routes = longest_among (λ _. true) ip routes

  -- it is one of the routes, it covers the address, and none that covers it is longer
  pub record IsLongest (ip : Ip4) (routes : List (Routed N)) (e : Routed N) : Type 0 where
    -- it is there
    pub stands : Contains routes e
    -- it covers the address
    pub covers : covers_ip ip e ≡ true
    -- none that covers the address is longer
    pub is_longest : All (λ (f : Routed N). covers_ip ip f ≡ true → f.0.len ≤ e.0.len) routes

  -- the interface of the longest interface route that covers the address
  abbrev pub covering_link : Ip4 → List (Routed N) → Option (IfOf N)
  covering_link ip routes =
      option_map (λ (e : Routed N). target_if e.1) (longest_among is_link ip routes)

  -- ---- routes that come and go

  -- the half, where it is one and not lo0
  abbrev pub half_in : Option (IfOf N) → Option N
  half_in None = None
  half_in (Some Lo0) = None
  half_in (Some (Half half)) = Some half

  -- the half beyond which a gateway lies
  abbrev pub gateway_half : Ip4 → List (Routed N) → Option N
  gateway_half via routes = half_in (covering_link via routes)

  -- why a gateway route is not added: there is a route to the prefix, or the gateway lies beyond no half
  abbrev pub gateway_refusals : Prefix → Ip4 → List (Routed N) → List (Bool × Errno)
  gateway_refusals to via routes =
      (is_some (route_at to routes), Exist) ∷ (is_none (gateway_half via routes), NetUnreach) ∷ []

  -- the first that applies
  abbrev pub gateway_refusal : Prefix → Ip4 → List (Routed N) → Option Errno
  gateway_refusal to via routes = first_refusal (gateway_refusals to via routes)

  -- with the route by the gateway beyond that half
  abbrev pub with_gateway : Prefix → Ip4 → Option N → List (Routed N) → List (Routed N)
  with_gateway to via None routes = routes
  with_gateway to via (Some half) routes =
      insert_entry prefix_cmp routes to (Gateway via half)

  -- one gateway route more
  abbrev pub after_gateway : Prefix → Ip4 → List (Routed N) → List (Routed N)
  after_gateway to via routes = with_gateway to via (gateway_half via routes) routes

  -- whether the route to the prefix is there and is a gateway route
  abbrev pub has_gateway : Prefix → List (Routed N) → Bool
  has_gateway to routes = option_map_or (λ t. not (is_link t)) (route_at to routes) false

  -- why a route is not deleted: interface routes go with their addresses alone
  abbrev pub delete_refusals : Prefix → List (Routed N) → List (Bool × Errno)
  delete_refusals to routes = (not (has_gateway to routes), Srch) ∷ []

  -- the first that applies
  abbrev pub delete_refusal : Prefix → List (Routed N) → Option Errno
  delete_refusal to routes = first_refusal (delete_refusals to routes)

  -- without the route to the prefix
  abbrev pub after_delete : Prefix → List (Routed N) → List (Routed N)
  after_delete to routes = remove_entry (is_at (prefix_cmp to)) routes

  -- with the interface route
  abbrev pub after_link : Prefix → IfOf N → List (Routed N) → List (Routed N)
  after_link to on routes = insert_entry prefix_cmp routes to (Link on)

module _ {N : Type 0} (same : N → N → Bool) where
  -- whether it is an interface route of the interface
  abbrev pub is_link_on : IfOf N → TargetOf N → Bool
  is_link_on on (Link own) = if_same same own on
  is_link_on on (Gateway via half) = false

  -- whether an interface route of the interface covers the address
  unfoldable pub covers : IfOf N → Ip4 → List (Routed N) → Bool
  covers on ip routes = list_any (λ (e : Routed N). is_link_on on e.1 && lies_in ip e.0) routes

  -- whether an interface route of the interface can lead to the prefix: no other route does
  abbrev pub can_link : Prefix → IfOf N → List (Routed N) → Bool
  can_link to on routes = option_map_or (is_link_on on) (route_at to routes) true

  -- ---- routes that go with an address or an interface

  -- whether it is that interface route of the interface
  abbrev pub is_link_to : Prefix → IfOf N → Routed N → Bool
  is_link_to to on e = is_at (prefix_cmp to) e.0 && is_link_on on e.1

  -- whether it is a gateway route on the interface whose gateway no interface route of its covers
  abbrev pub is_stranded : IfOf N → List (Routed N) → TargetOf N → Bool
  is_stranded on routes (Link own) = false
  is_stranded on routes (Gateway via half) =
      if_same same (Half half) on && not (covers (Half half) via routes)

  -- without that interface route
  abbrev pub without_link : Prefix → IfOf N → List (Routed N) → List (Routed N)
  without_link to on routes = filter (λ e. not (is_link_to to on e)) routes

  -- without the gateway routes of the interface that are covered no more
  abbrev pub without_stranded : IfOf N → List (Routed N) → List (Routed N)
  without_stranded on routes = filter (λ (e : Routed N). not (is_stranded on routes e.1)) routes

  -- without an interface route, and without the gateway routes that stood on it alone
  abbrev pub after_unlink : Prefix → IfOf N → List (Routed N) → List (Routed N)
  after_unlink to on routes = without_stranded on (without_link to on routes)

  -- without the routes of the interface
  abbrev pub after_purge_routes : IfOf N → List (Routed N) → List (Routed N)
  after_purge_routes on routes =
      filter (λ (e : Routed N). not (if_same same (target_if e.1) on)) routes
