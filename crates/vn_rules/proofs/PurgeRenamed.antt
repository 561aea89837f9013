-- What leaves with an address or a half goes through each renaming that keeps the test on names.
use Rattle.std.proofs.Common.{◌≡◌, Bool, true, false, cond, not, ◌&&◌, ◌==◌, List, [], ◌∷◌, map, Option, Some, None, refl, ap, ap₂, ◌∙◌}
use Rattle.std.specs.BTreeMap.{is_at}
use Rattle.std.specs.List.{list_any, filter}
use Rattle.std.specs.Option.{option_map}
use Rattle.vn_types.specs.declared.address.Ip4.{Ip4}
use Rattle.vn_types.specs.declared.address.Prefix.{Prefix}
use Rattle.vn_types.specs.declared.interface.IfOf.{IfOf}
use Rattle.vn_types.specs.declared.interface.IfOf.TheVariants.{Half}
use Rattle.vn_types.specs.Interfaces.{if_same, as_if}
use Rattle.vn_types.proofs.InterfaceNames.{if_same-as_if}
use Rattle.vn_types.proofs.ListMaps.{filter_map_same, any_map_same}
use Rattle.vn_rules.specs.declared.address.AddrOf.{AddrOf}
use Rattle.vn_rules.specs.declared.route.TargetOf.{TargetOf}
use Rattle.vn_rules.specs.declared.route.TargetOf.TheVariants.{Link, Gateway}
use Rattle.vn_rules.specs.declared.parts.PartsOf.{PartsOf}
use Rattle.vn_rules.specs.Addresses.{prefix_of, is_on, address_of, is_address_of, without_address}
use Rattle.vn_rules.specs.Arp.{without_entries}
use Rattle.vn_rules.specs.Networks.{lies_in}
use Rattle.vn_rules.specs.Pings.{is_from, is_out_by, without_pings}
use Rattle.vn_rules.specs.Purge.{routes_without, is_uncovered, without_addr, without_found, dropped, without_addrs, without_names, purged}
use Rattle.vn_rules.specs.Renamed.{as_addr, as_target, as_routed, renamed}
use Rattle.vn_rules.specs.Routes.{Routed, prefix_cmp, target_if, is_link_to, is_stranded, without_link, without_stranded, after_unlink, after_purge_routes}
use Rattle.vn_rules.specs.Sockets.{unbound_from, without_grams_by}
use Rattle.vn_rules.proofs.AddressLaws.{is_on-renamed, address_of-renamed, without_address-renamed}
use Rattle.vn_rules.proofs.ArpLaws.{without_entries-renamed}
use Rattle.vn_rules.proofs.PingRemoval.{without_pings-renamed, is_out_by-renamed}
use Rattle.vn_rules.proofs.Renaming.{target_if-renamed}
use Rattle.vn_rules.proofs.RouteLaws.{is_link_on-renamed}
use Rattle.vn_rules.proofs.SocketRemoval.{unbound_from-renamed, without_grams_by-renamed}
use Rattle.vn_rules.proofs.SoundRenamed.{covers-renamed}

module _ {N M : Type 0} (r : N → M) (at_n : N → N → Bool) (at_m : M → M → Bool) (faithful : (a b : N) → at_m (r a) (r b) ≡ at_n a b) where
  abbrev if_kept : (a b : IfOf N) → if_same at_m (as_if r a) (as_if r b) ≡ if_same at_n a b
  if_kept a b = if_same-as_if r at_n at_m faithful a b

  -- ---- routes

  is_stranded-renamed : (on : IfOf N) (rs : List (Routed N)) (t : TargetOf N) → is_stranded at_m (as_if r on) (map (as_routed r) rs) (as_target r t) ≡ is_stranded at_n on rs t
  is_stranded-renamed on rs (Link own) = refl
  is_stranded-renamed on rs (Gateway via half) = ap₂ (λ b c. b && not c) (if_kept (Half half) on) (covers-renamed r at_n at_m faithful (Half half) via rs)

  without_link-renamed : (to : Prefix) (on : IfOf N) (rs : List (Routed N)) → without_link at_m to (as_if r on) (map (as_routed r) rs) ≡ map (as_routed r) (without_link at_n to on rs)
  without_link-renamed to on rs = filter_map_same (as_routed r) (λ e. not (is_link_to at_n to on e)) (λ e. not (is_link_to at_m to (as_if r on) e)) (λ e. ap (λ b. not (is_at (prefix_cmp to) e.0 && b)) (is_link_on-renamed r at_n at_m faithful on e.1)) rs

  without_stranded-renamed : (on : IfOf N) (rs : List (Routed N)) → without_stranded at_m (as_if r on) (map (as_routed r) rs) ≡ map (as_routed r) (without_stranded at_n on rs)
  without_stranded-renamed on rs = filter_map_same (as_routed r) (λ e. not (is_stranded at_n on rs e.1)) (λ e. not (is_stranded at_m (as_if r on) (map (as_routed r) rs) e.1)) (λ e. ap not (is_stranded-renamed on rs e.1)) rs

  pub after_unlink-renamed : (to : Prefix) (on : IfOf N) (rs : List (Routed N)) → after_unlink at_m to (as_if r on) (map (as_routed r) rs) ≡ map (as_routed r) (after_unlink at_n to on rs)
  after_unlink-renamed to on rs = ap (without_stranded at_m (as_if r on)) (without_link-renamed to on rs) ∙ without_stranded-renamed on (without_link at_n to on rs)

  pub after_purge_routes-renamed : (on : IfOf N) (rs : List (Routed N)) → after_purge_routes at_m (as_if r on) (map (as_routed r) rs) ≡ map (as_routed r) (after_purge_routes at_n on rs)
  after_purge_routes-renamed on rs = filter_map_same (as_routed r) (λ e. not (if_same at_n (target_if e.1) on)) (λ e. not (if_same at_m (target_if e.1) (as_if r on)))
      (λ e. ap (λ i. not (if_same at_m i (as_if r on))) (target_if-renamed r e.1) ∙ ap not (if_kept (target_if e.1) on)) rs

  is_address_of-renamed : (on : IfOf N) (to : Prefix) (a : AddrOf N) → is_address_of at_m (as_if r on) to (as_addr r a) ≡ is_address_of at_n on to a
  is_address_of-renamed on to a = ap (λ b. b && (a.len == to.len) && lies_in a.ip to) (if_kept a.on on)

  routes_without-renamed : (a : AddrOf N) (left : List (AddrOf N)) (rs : List (Routed N)) → routes_without at_m (as_addr r a) (map (as_addr r) left) (map (as_routed r) rs) ≡ map (as_routed r) (routes_without at_n a left rs)
  routes_without-renamed a left rs =
      ap₂ (λ b ws. cond b (map (as_routed r) rs) ws) (any_map_same (as_addr r) (is_address_of at_n a.on (prefix_of a)) (is_address_of at_m (as_if r a.on) (prefix_of a)) (is_address_of-renamed a.on (prefix_of a)) left) (after_unlink-renamed (prefix_of a) a.on rs)
      ∙ by (list_any (is_address_of at_n a.on (prefix_of a)) left)
    where
      by : (b : Bool) → cond b (map (as_routed r) rs) (map (as_routed r) (after_unlink at_n (prefix_of a) a.on rs)) ≡ map (as_routed r) (cond b rs (after_unlink at_n (prefix_of a) a.on rs))
      by true = refl
      by false = refl

  -- ---- an address

  module _ (a : AddrOf N) (p : PartsOf N) where
    abbrev left : List (AddrOf N)
    left = without_address at_n (Some a) p.addresses

    abbrev routes : List (Routed N)
    routes = routes_without at_n a left p.routes

    abbrev renamed_routes : List (Routed M)
    renamed_routes = routes_without at_m (as_addr r a) (without_address at_m (Some (as_addr r a)) (map (as_addr r) p.addresses)) (map (as_routed r) p.routes)

    left-kept : without_address at_m (Some (as_addr r a)) (map (as_addr r) p.addresses) ≡ map (as_addr r) left
    left-kept = without_address-renamed r at_n at_m faithful (Some a) p.addresses

    routes-kept : renamed_routes ≡ map (as_routed r) routes
    routes-kept = ap (λ xs. routes_without at_m (as_addr r a) xs (map (as_routed r) p.routes)) left-kept ∙ routes_without-renamed a left p.routes

    is_uncovered-kept : (h : N) (ip : Ip4) → is_uncovered at_m (as_if r a.on) renamed_routes (r h) ip ≡ is_uncovered at_n a.on routes h ip
    is_uncovered-kept h ip =
        ap (λ rs. is_uncovered at_m (as_if r a.on) rs (r h) ip) routes-kept
        ∙ ap₂ (λ b c. b && not c) (if_kept (Half h) a.on) (covers-renamed r at_n at_m faithful (Half h) ip routes)

    bare-kept : without_entries (is_uncovered at_m (as_if r a.on) renamed_routes) (without_pings (is_from a.ip) (unbound_from a.ip (renamed r p)))
        ≡ renamed r (without_entries (is_uncovered at_n a.on routes) (without_pings (is_from a.ip) (unbound_from a.ip p)))
    bare-kept =
        ap (λ q. without_entries (is_uncovered at_m (as_if r a.on) renamed_routes) (without_pings (is_from a.ip) q)) (unbound_from-renamed r a.ip p)
        ∙ ap (without_entries (is_uncovered at_m (as_if r a.on) renamed_routes)) (without_pings-renamed r (is_from a.ip) (is_from a.ip) (λ g. refl) (unbound_from a.ip p))
        ∙ without_entries-renamed r (is_uncovered at_n a.on routes) (is_uncovered at_m (as_if r a.on) renamed_routes) is_uncovered-kept (without_pings (is_from a.ip) (unbound_from a.ip p))

    pub without_addr-renamed : without_addr at_m (as_addr r a) (renamed r p) ≡ renamed r (without_addr at_n a p)
    unfolding without_addr renamed
    without_addr-renamed i = record (bare-kept i) { addresses = left-kept i; routes = routes-kept i }

  pub dropped-renamed : (on : IfOf N) (ip : Ip4) (p : PartsOf N) → dropped at_m (as_if r on) ip (renamed r p) ≡ renamed r (dropped at_n on ip p)
  unfolding dropped renamed
  dropped-renamed on ip p = ap (λ o. without_found at_m o (renamed r p)) (address_of-renamed r at_n at_m faithful on ip p.addresses) ∙ by (address_of at_n on ip p.addresses)
    where
      by : (o : Option (AddrOf N)) → without_found at_m (option_map (as_addr r) o) (renamed r p) ≡ renamed r (without_found at_n o p)
      by None = refl
      by (Some a) = without_addr-renamed a p

  -- ---- a half

  without_addrs-renamed : (xs : List (AddrOf N)) (p : PartsOf N) → without_addrs at_m (map (as_addr r) xs) (renamed r p) ≡ renamed r (without_addrs at_n xs p)
  without_addrs-renamed [] p = refl
  without_addrs-renamed (a ∷ xs) p = ap (without_addrs at_m (map (as_addr r) xs)) (without_addr-renamed a p) ∙ without_addrs-renamed xs (without_addr at_n a p)

  module _ (h : N) (p : PartsOf N) where
    names-kept : without_entries (λ half ip. at_m half (r h)) (without_pings (is_out_by at_m (Half (r h))) (without_grams_by at_m (Half (r h)) (renamed r p)))
        ≡ renamed r (without_entries (λ half ip. at_n half h) (without_pings (is_out_by at_n (Half h)) (without_grams_by at_n (Half h) p)))
    names-kept =
        ap (λ q. without_entries (λ half ip. at_m half (r h)) (without_pings (is_out_by at_m (Half (r h))) q)) (without_grams_by-renamed r at_n at_m faithful (Half h) p)
        ∙ ap (without_entries (λ half ip. at_m half (r h))) (without_pings-renamed r (is_out_by at_n (Half h)) (is_out_by at_m (Half (r h))) (is_out_by-renamed r at_n at_m faithful (Half h)) (without_grams_by at_n (Half h) p))
        ∙ without_entries-renamed r (λ half ip. at_n half h) (λ half ip. at_m half (r h)) (λ half ip. faithful half h) (without_pings (is_out_by at_n (Half h)) (without_grams_by at_n (Half h) p))

    without_names-renamed : without_names at_m (r h) (renamed r p) ≡ renamed r (without_names at_n h p)
    unfolding without_names renamed
    without_names-renamed i = record (names-kept i) { routes = after_purge_routes-renamed (Half h) p.routes i }

  pub purged-renamed : (h : N) (p : PartsOf N) → purged at_m (r h) (renamed r p) ≡ renamed r (purged at_n h p)
  unfolding purged renamed
  purged-renamed h p =
      ap (λ xs. without_names at_m (r h) (without_addrs at_m xs (renamed r p))) (filter_map_same (as_addr r) (is_on at_n (Half h)) (is_on at_m (Half (r h))) (is_on-renamed r at_n at_m faithful (Half h)) p.addresses)
      ∙ ap (without_names at_m (r h)) (without_addrs-renamed (filter (is_on at_n (Half h)) p.addresses) p)
      ∙ without_names-renamed h (without_addrs at_n (filter (is_on at_n (Half h)) p.addresses) p)
