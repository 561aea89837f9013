-- Routes under other names of halves: what is chosen, refused, added and deleted goes through a renaming.
use Rattle.std.proofs.Common.{◌≡◌, Bool, true, false, not, ◌&&◌, nat_lt, is_some, is_none, List, [], ◌∷◌, map, Option, Some, None, refl, ap, ap₂, ◌∙◌}
use Rattle.std.specs.BTreeMap.{is_at}
use Rattle.std.specs.List.{filter}
use Rattle.std.specs.Option.{option_map, option_map_or}
use Rattle.std.proofs.lemmas.Map.Made.{lookup-map_values}
use Rattle.vn_types.specs.declared.address.Ip4.{Ip4}
use Rattle.vn_types.specs.declared.address.Prefix.{Prefix}
use Rattle.vn_types.specs.declared.errno.Errno.TheVariants.{Exist, NetUnreach, Srch}
use Rattle.vn_types.specs.declared.interface.IfOf.{IfOf}
use Rattle.vn_types.specs.declared.interface.IfOf.TheVariants.{Lo0, Half}
use Rattle.vn_types.specs.Interfaces.{as_if}
use Rattle.vn_types.specs.Refusals.{first_refusal}
use Rattle.vn_types.proofs.InterfaceNames.{if_same-as_if}
use Rattle.vn_types.proofs.ListMaps.{filter_map_same}
use Rattle.vn_rules.specs.declared.route.TargetOf.{TargetOf}
use Rattle.vn_rules.specs.declared.route.TargetOf.TheVariants.{Link, Gateway}
use Rattle.vn_rules.specs.Renamed.{as_target, as_routed}
use Rattle.vn_rules.specs.Routes.{Routed, prefix_cmp, target_if, is_link, is_link_on, route_at, covers_ip, longer, longest, longest_among, lookup, covering_link, half_in, gateway_half, gateway_refusals, gateway_refusal, with_gateway, after_gateway, has_gateway, delete_refusals, delete_refusal, after_delete, after_link, can_link}
use Rattle.vn_rules.proofs.EntryMaps.{insert_entry-mapped, remove_entry-mapped}
use Rattle.vn_rules.proofs.Renaming.{cond-renamed, target_if-renamed}

module _ {N M : Type 0} (r : N → M) where
  abbrev renames : List (Routed N) → List (Routed M)
  renames rs = map (as_routed r) rs

  is_link-renamed : (t : TargetOf N) → is_link (as_target r t) ≡ is_link t
  is_link-renamed (Link on) = refl
  is_link-renamed (Gateway via half) = refl

  pub route_at-renamed : (to : Prefix) (rs : List (Routed N)) → route_at to (renames rs) ≡ option_map (as_target r) (route_at to rs)
  route_at-renamed to rs = lookup-map_values (as_target r) (is_at (prefix_cmp to)) rs

  -- ---- the route that is chosen

  longest-renamed : (rs : List (Routed N)) → longest (renames rs) ≡ option_map (as_routed r) (longest rs)
  longest-renamed [] = refl
  longest-renamed (e ∷ rs) = ap (λ o. Some (longer (as_routed r e) o)) (longest-renamed rs) ∙ ap Some (by (longest rs))
    where
      by : (o : Option (Routed N)) → longer (as_routed r e) (option_map (as_routed r) o) ≡ as_routed r (longer e o)
      by None = refl
      by (Some f) = cond-renamed (as_routed r) f e (nat_lt e.0.len f.0.len)

  longest_among-renamed : (t : TargetOf N → Bool) (u : TargetOf M → Bool) → ((x : TargetOf N) → u (as_target r x) ≡ t x) → (ip : Ip4) (rs : List (Routed N)) → longest_among u ip (renames rs) ≡ option_map (as_routed r) (longest_among t ip rs)
  longest_among-renamed t u same ip rs =
      ap longest (filter_map_same (as_routed r) (λ e. t e.1 && covers_ip ip e) (λ e. u e.1 && covers_ip ip e) (λ e. ap (λ b. b && covers_ip ip e) (same e.1)) rs)
      ∙ longest-renamed (filter (λ (e : Routed N). t e.1 && covers_ip ip e) rs)

  pub lookup-renamed : (ip : Ip4) (rs : List (Routed N)) → lookup ip (renames rs) ≡ option_map (as_routed r) (lookup ip rs)
  lookup-renamed ip rs = longest_among-renamed (λ _. true) (λ _. true) (λ x. refl) ip rs

  pub covering_link-renamed : (ip : Ip4) (rs : List (Routed N)) → covering_link ip (renames rs) ≡ option_map (as_if r) (covering_link ip rs)
  covering_link-renamed ip rs = ap (option_map (λ (e : Routed M). target_if e.1)) (longest_among-renamed is_link is_link is_link-renamed ip rs) ∙ by (longest_among is_link ip rs)
    where
      by : (o : Option (Routed N)) → option_map (λ (e : Routed M). target_if e.1) (option_map (as_routed r) o) ≡ option_map (as_if r) (option_map (λ (e : Routed N). target_if e.1) o)
      by None = refl
      by (Some e) = ap Some (target_if-renamed r e.1)

  pub gateway_half-renamed : (via : Ip4) (rs : List (Routed N)) → gateway_half via (renames rs) ≡ option_map r (gateway_half via rs)
  gateway_half-renamed via rs = ap half_in (covering_link-renamed via rs) ∙ by (covering_link via rs)
    where
      by : (o : Option (IfOf N)) → half_in (option_map (as_if r) o) ≡ option_map r (half_in o)
      by None = refl
      by (Some Lo0) = refl
      by (Some (Half h)) = refl

  -- ---- routes that come and go

  some-mapped : {A B : Type 0} (f : A → B) (o : Option A) → is_some (option_map f o) ≡ is_some o
  some-mapped f None = refl
  some-mapped f (Some x) = refl

  pub gateway_refusals-renamed : (to : Prefix) (via : Ip4) (rs : List (Routed N)) → gateway_refusals to via (renames rs) ≡ gateway_refusals to via rs
  gateway_refusals-renamed to via rs =
      ap₂ (λ b c. (b, Exist) ∷ (c, NetUnreach) ∷ []) (ap is_some (route_at-renamed to rs) ∙ some-mapped (as_target r) (route_at to rs))
      (ap is_none (gateway_half-renamed via rs) ∙ by (gateway_half via rs))
    where
      by : (o : Option N) → is_none (option_map r o) ≡ is_none o
      by None = refl
      by (Some h) = refl

  pub gateway_refusal-renamed : (to : Prefix) (via : Ip4) (rs : List (Routed N)) → gateway_refusal to via (renames rs) ≡ gateway_refusal to via rs
  gateway_refusal-renamed to via rs = ap first_refusal (gateway_refusals-renamed to via rs)

  pub after_gateway-renamed : (to : Prefix) (via : Ip4) (rs : List (Routed N)) → after_gateway to via (renames rs) ≡ renames (after_gateway to via rs)
  after_gateway-renamed to via rs = ap (λ o. with_gateway to via o (renames rs)) (gateway_half-renamed via rs) ∙ by (gateway_half via rs)
    where
      by : (o : Option N) → with_gateway to via (option_map r o) (renames rs) ≡ renames (with_gateway to via o rs)
      by None = refl
      by (Some half) = insert_entry-mapped (as_target r) prefix_cmp rs to (Gateway via half)

  pub has_gateway-renamed : (to : Prefix) (rs : List (Routed N)) → has_gateway to (renames rs) ≡ has_gateway to rs
  has_gateway-renamed to rs = ap (λ o. option_map_or (λ t. not (is_link t)) o false) (route_at-renamed to rs) ∙ by (route_at to rs)
    where
      by : (o : Option (TargetOf N)) → option_map_or (λ t. not (is_link t)) (option_map (as_target r) o) false ≡ option_map_or (λ t. not (is_link t)) o false
      by None = refl
      by (Some t) = ap not (is_link-renamed t)

  pub delete_refusals-renamed : (to : Prefix) (rs : List (Routed N)) → delete_refusals to (renames rs) ≡ delete_refusals to rs
  delete_refusals-renamed to rs = ap (λ b. (not b, Srch) ∷ []) (has_gateway-renamed to rs)

  pub delete_refusal-renamed : (to : Prefix) (rs : List (Routed N)) → delete_refusal to (renames rs) ≡ delete_refusal to rs
  delete_refusal-renamed to rs = ap first_refusal (delete_refusals-renamed to rs)

  pub after_delete-renamed : (to : Prefix) (rs : List (Routed N)) → after_delete to (renames rs) ≡ renames (after_delete to rs)
  after_delete-renamed to rs = remove_entry-mapped (as_target r) (is_at (prefix_cmp to)) rs

  pub after_link-renamed : (to : Prefix) (on : IfOf N) (rs : List (Routed N)) → after_link to (as_if r on) (renames rs) ≡ renames (after_link to on rs)
  after_link-renamed to on rs = insert_entry-mapped (as_target r) prefix_cmp rs to (Link on)

  module _ (at_n : N → N → Bool) (at_m : M → M → Bool) (faithful : (a b : N) → at_m (r a) (r b) ≡ at_n a b) where
    pub is_link_on-renamed : (on : IfOf N) (t : TargetOf N) → is_link_on at_m (as_if r on) (as_target r t) ≡ is_link_on at_n on t
    is_link_on-renamed on (Link own) = if_same-as_if r at_n at_m faithful own on
    is_link_on-renamed on (Gateway via half) = refl

    pub can_link-renamed : (to : Prefix) (on : IfOf N) (rs : List (Routed N)) → can_link at_m to (as_if r on) (renames rs) ≡ can_link at_n to on rs
    can_link-renamed to on rs = ap (λ o. option_map_or (is_link_on at_m (as_if r on)) o true) (route_at-renamed to rs) ∙ by (route_at to rs)
      where
        by : (o : Option (TargetOf N)) → option_map_or (is_link_on at_m (as_if r on)) (option_map (as_target r) o) true ≡ option_map_or (is_link_on at_n on) o true
        by None = refl
        by (Some t) = is_link_on-renamed on t
