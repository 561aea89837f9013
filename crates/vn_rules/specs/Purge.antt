-- What leaves a stack with an address (ifconfig(8), `-alias`), and with a half that goes away.
use Rattle.std.specs.Prelude.{Bool, not, ◌&&◌, List, [], ◌∷◌, Option, Some, None, if◌then◌else◌}
use Rattle.std.specs.List.{list_any, filter}
use Rattle.vn_types.specs.declared.address.Ip4.{Ip4}
use Rattle.vn_types.specs.declared.interface.IfOf.{IfOf}
use Rattle.vn_types.specs.declared.interface.IfOf.TheVariants.{Half}
use Rattle.vn_types.specs.Interfaces.{if_same}
use Rattle.vn_rules.specs.declared.address.AddrOf.{AddrOf}
use Rattle.vn_rules.specs.declared.parts.PartsOf.{PartsOf}
use Rattle.vn_rules.specs.Addresses.{prefix_of, is_on, address_of, is_address_of, without_address}
use Rattle.vn_rules.specs.Arp.{without_entries}
use Rattle.vn_rules.specs.Pings.{is_from, is_out_by, without_pings}
use Rattle.vn_rules.specs.Routes.{Routed, covers, after_unlink, after_purge_routes}
use Rattle.vn_rules.specs.Sockets.{unbound_from, without_grams_by}

module _ {N : Type 0} (same : N → N → Bool) where
  -- ---- an address

  -- the routes without an address, where these addresses are left: its interface route stays where
  -- another address of the interface has that network
  abbrev pub routes_without : AddrOf N → List (AddrOf N) → List (Routed N) → List (Routed N)
  routes_without a left routes =
      if list_any (is_address_of same a.on (prefix_of a)) left then routes
      else after_unlink same (prefix_of a) a.on routes

  -- whether an entry on the interface is covered by none of its interface routes
  abbrev pub is_uncovered : IfOf N → List (Routed N) → N → Ip4 → Bool
  is_uncovered on routes half ip =
      if_same same (Half half) on && not (covers same (Half half) ip routes)

  -- an address goes, and with it what stood on it alone: its interface route with the gateways beyond, the
  -- ARP entries that no route covers any more, and the pings that were sent from it; sockets lose it
  unfoldable pub without_addr : AddrOf N → PartsOf N → PartsOf N
  without_addr a p =
      let left = without_address same (Some a) p.addresses in
      let routes = routes_without a left p.routes in
      record (without_entries (is_uncovered a.on routes) (without_pings (is_from a.ip) (unbound_from a.ip p))) {
        addresses = left;
        routes = routes;
      }

  -- where it is there
  abbrev pub without_found : Option (AddrOf N) → PartsOf N → PartsOf N
  without_found None p = p
  without_found (Some a) p = without_addr a p

  -- an address of an interface is removed
  unfoldable pub dropped : IfOf N → Ip4 → PartsOf N → PartsOf N
  dropped on ip p = without_found (address_of same on ip p.addresses) p

  -- ---- a half

  -- addresses are removed one after another
  abbrev pub without_addrs : List (AddrOf N) → PartsOf N → PartsOf N
  without_addrs [] p = p
  without_addrs (a ∷ addresses) p = without_addrs addresses (without_addr a p)

  -- without the routes, ARP entries, awaited pings and queued datagrams that name the half
  unfoldable pub without_names : N → PartsOf N → PartsOf N
  without_names h p =
      record (without_entries (λ half ip. same half h) (without_pings (is_out_by same (Half h)) (without_grams_by same (Half h) p))) {
        routes = after_purge_routes same (Half h) p.routes;
      }

  -- a half leaves the stack: all of its addresses are removed, and then what else names it
  unfoldable pub purged : N → PartsOf N → PartsOf N
  purged h p = without_names h (without_addrs (filter (is_on same (Half h)) p.addresses) p)
