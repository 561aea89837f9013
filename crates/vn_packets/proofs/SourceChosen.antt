-- The source that is chosen for a datagram is an address of the stack, and there is one where there is a way.
use Rattle.std.proofs.Common.{◌≡◌, Bool, true, false, cond, ◌&&◌, ◌||◌, ◌==◌, List, [], ◌∷◌, unwrap_or, Option, Some, None, Contains, refl, sym, ap, ◌∙◌}
use Rattle.std.specs.Bool.{Decides}
use Rattle.std.specs.List.{find, list_any}
use Rattle.std.specs.Option.{IfSome, option_map}
use Rattle.std.proofs.lemmas.Bool.{and_parts, and_from, eq-eqb, eqb-true, false≢true, or_left, or_right}
use Rattle.std.proofs.lemmas.List.Folds.{list_any-from_Any}
use Rattle.vn_types.proofs.InterfaceNames.{if_same-Decides}
use Rattle.vn_types.proofs.Options.{none_some, some_same}
use Rattle.vn_types.specs.declared.address.Ip4.{Ip4}
use Rattle.vn_types.specs.declared.address.Prefix.{Prefix}
use Rattle.vn_types.specs.declared.interface.IfOf.{IfOf}
use Rattle.vn_types.specs.declared.interface.IfOf.TheVariants.{Lo0, Half}
use Rattle.vn_types.specs.Interfaces.{if_same}
use Rattle.vn_rules.specs.declared.address.AddrOf.{AddrOf}
use Rattle.vn_rules.specs.declared.parts.PartsOf.{PartsOf}
use Rattle.vn_rules.specs.declared.route.TargetOf.TheVariants.{Link, Gateway}
use Rattle.vn_rules.specs.Addresses.{has_ip, is_address_of, local, reaches, source_for}
use Rattle.vn_rules.specs.Networks.{network_of, lies_in}
use Rattle.vn_rules.specs.Routes.{Routed, covers, covers_ip, is_link_on, lookup, IsLongest}
use Rattle.vn_rules.specs.Soundness.{founds_routes, is_founded, is_sound_parts}
use Rattle.vn_rules.proofs.Kept.{any_weaker, from_any}
use Rattle.vn_rules.proofs.RouteChoice.{lookup-longest}
use Rattle.vn_packets.specs.ArpPackets.{unset_ip}
use Rattle.vn_packets.specs.Output.{WayOf, Nowhere, Looped, By, way_along, way_to, source_by, chosen_source}
use Rattle.vn_packets.proofs.OutputSound.{way-covered}
use Rattle.vn_packets.proofs.SceneSound.{sound_facts}

module _ {N : Type 0} where
  -- the address that is found first, where one is
  abbrev found_ip : (AddrOf N → Bool) → List (AddrOf N) → Option Ip4
  found_ip test xs = option_map (λ (a : AddrOf N). a.ip) (find test xs)

  found-local : (test : AddrOf N → Bool) (xs : List (AddrOf N)) (src : Ip4) → found_ip test xs ≡ Some src → local src xs ≡ true
  found-local test [] src is = absurd (none_some src is)
  found-local test (a ∷ xs) src is = by (test a) is (found-local test xs src)
    where
      by : (b : Bool) → option_map (λ (a : AddrOf N). a.ip) (cond b (Some a) (find test xs)) ≡ Some src → (found_ip test xs ≡ Some src → local src xs ≡ true) → local src (a ∷ xs) ≡ true
      by true is more = or_left _ _ (eq-eqb a.ip.0 src.0 (ap (λ (ip : Ip4). ip.0) (some_same _ _ is)))
      by false is more = or_right (has_ip src a) _ (more is)

  -- where one passes the test, one is found
  known : (test : AddrOf N → Bool) (xs : List (AddrOf N)) → list_any test xs ≡ true → local (unwrap_or (found_ip test xs) unset_ip) xs ≡ true
  known test [] any = absurd (false≢true any)
  known test (a ∷ xs) any = by (test a) any (known test xs)
    where
      rest : Ip4
      rest = unwrap_or (found_ip test xs) unset_ip

      by : (b : Bool) → (b || list_any test xs) ≡ true → (list_any test xs ≡ true → local rest xs ≡ true)
          → local (unwrap_or (option_map (λ (a : AddrOf N). a.ip) (cond b (Some a) (find test xs))) unset_ip) (a ∷ xs) ≡ true
      by true any more = or_left _ _ (eq-eqb a.ip.0 a.ip.0 refl)
      by false any more = or_right (has_ip rest a) _ (more any)

module _ {N : Type 0} (same : N → N → Bool) (decides : (a b : N) → Decides (same a b) (a ≡ b)) (p : PartsOf N) (sound : is_sound_parts same p ≡ true) where
  -- an interface whose route covers an address has an address whose network has it
  founded-source : (on : IfOf N) (ip : Ip4) → covers same on ip p.routes ≡ true → list_any (reaches same on ip) p.addresses ≡ true
  unfolding covers founds_routes lies_in
  founded-source on ip covered =
      from_any (λ (e : Routed N). is_link_on same on e.1 && lies_in ip e.0) (is_founded same p) (list_any (reaches same on ip) p.addresses) p.routes by covered
      (sound_facts same p sound).founded
    where
      reached : (own : IfOf N) (to : Prefix) (a : AddrOf N) → own ≡ on → lies_in ip to ≡ true → is_address_of same own to a ≡ true → reaches same on ip a ≡ true
      reached own to a is lies of =
          let two = and_parts (if_same same a.on own && (a.len == to.len)) (lies_in a.ip to) of in
          let one = and_parts (if_same same a.on own) (a.len == to.len) two.0 in
          let len : a.len ≡ to.len = eqb-true a.len to.len one.1 in
          let its : (network_of a.ip to.len).0 ≡ to.net.0 = eqb-true (network_of a.ip to.len).0 to.net.0 two.1 in
          let the : (network_of ip to.len).0 ≡ to.net.0 = eqb-true (network_of ip to.len).0 to.net.0 lies in
          and_from (if_same same a.on on) _ (ap (if_same same a.on) (sym is) ∙ one.0)
          (eq-eqb (network_of ip a.len).0 (network_of a.ip a.len).0 (ap (λ n. (network_of ip n).0) len ∙ the ∙ sym its ∙ ap (λ n. (network_of a.ip n).0) (sym len)))

      by : (e : Routed N) → (is_link_on same on e.1 && lies_in ip e.0) ≡ true → is_founded same p e ≡ true → list_any (reaches same on ip) p.addresses ≡ true
      by (to, Link own) link founded =
          let two = and_parts (if_same same own on) (lies_in ip to) link in
          any_weaker (is_address_of same own to) (reaches same on ip) p.addresses (λ a. reached own to a ((if_same-Decides same decides own on).0 two.0) two.1) founded
      by (to, Gateway via h) link founded = absurd (false≢true link)

  -- what goes through lo0, and is no address of the stack, is covered by a route of lo0
  looped-covered : (ip : Ip4) → way_along ip (lookup ip p.routes) ≡ Looped → covers same Lo0 ip p.routes ≡ true
  unfolding covers
  looped-covered ip is = along (lookup ip p.routes) (lookup-longest ip p.routes) is
    where
      one : (e : Routed N) → Contains p.routes e → covers_ip ip e ≡ true → way_along ip (Some e) ≡ Looped → list_any (λ (f : Routed N). is_link_on same Lo0 f.1 && lies_in ip f.0) p.routes ≡ true
      one (to, Link Lo0) stands lies is =
          list_any-from_Any (λ (f : Routed N). is_link_on same Lo0 f.1 && lies_in ip f.0) p.routes (stands.0, (to, Link Lo0), stands.1, stands.2, and_from _ _ ((if_same-Decides same decides Lo0 Lo0).1 refl) lies)
      one (to, Link (Half own)) stands lies is = absurd (cc)
      one (to, Gateway via own) stands lies is = absurd (cc)

      along : (o : Option (Routed N)) → IfSome o (IsLongest ip p.routes) → way_along ip o ≡ Looped → list_any (λ (f : Routed N). is_link_on same Lo0 f.1 && lies_in ip f.0) p.routes ≡ true
      along None found is = absurd (cc)
      along (Some e) found is = one e found.stands found.covers is

  -- a source that is chosen is an address of the stack
  pub chosen-local : (ip src : Ip4) → chosen_source same ip p ≡ Some src → local src p.addresses ≡ true
  unfolding chosen_source
  chosen-local ip src is = by (way_to ip p) is
    where
      looped : (b : Bool) → local ip p.addresses ≡ b → cond b (Some ip) (source_for same Lo0 ip p.addresses) ≡ Some src → local src p.addresses ≡ true
      looped true own is = ap (λ at. local at p.addresses) (sym (some_same _ _ is)) ∙ own
      looped false own is = found-local (reaches same Lo0 ip) p.addresses src is

      by : (w : WayOf N) → source_by same ip w p ≡ Some src → local src p.addresses ≡ true
      by Nowhere is = absurd (none_some src is)
      by Looped is = looped (local ip p.addresses) refl is
      by (By h hop) is = found-local (reaches same (Half h) hop) p.addresses src is

  -- where there is a way, one is chosen
  pub chosen-known : (ip : Ip4) → (way_to ip p ≡ Nowhere → ⊥) → local (unwrap_or (chosen_source same ip p) unset_ip) p.addresses ≡ true
  unfolding chosen_source way_to
  chosen-known ip some = by (way_to ip p) refl
    where
      looped : (b : Bool) → local ip p.addresses ≡ b → cond b Looped (way_along ip (lookup ip p.routes)) ≡ Looped → local (unwrap_or (cond b (Some ip) (source_for same Lo0 ip p.addresses)) unset_ip) p.addresses ≡ true
      looped true own is = own
      looped false own is = known (reaches same Lo0 ip) p.addresses (founded-source Lo0 ip (looped-covered ip is))

      by : (w : WayOf N) → way_to ip p ≡ w → local (unwrap_or (source_by same ip w p) unset_ip) p.addresses ≡ true
      by Nowhere is = absurd (some is)
      by Looped is = looped (local ip p.addresses) refl is
      by (By h hop) is = known (reaches same (Half h) hop) p.addresses (founded-source (Half h) hop (way-covered same decides p sound ip h hop is))
