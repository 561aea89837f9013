-- What the routes that are left still cover and stand on, where an address, an interface route or a half is gone.
use Rattle.std.proofs.Common.{◌≡◌, Bool, true, false, cond, not, ◌&&◌, ◌==◌, List, Some, refl, sym, ap, ◌∙◌}
use Rattle.std.specs.Bool.{Decides}
use Rattle.std.specs.BTreeMap.{is_at}
use Rattle.std.specs.Cmp.{tied_itself}
use Rattle.std.specs.List.{list_any, list_all, filter}
use Rattle.std.specs.Map.{keys_of}
use Rattle.std.specs.Ordering.{is_eq}
use Rattle.std.proofs.lemmas.Bool.{and_parts, and_from, and_left, both_ways, not-true, not-false, false_from_ne_true, false≢true, true≢false, eqb-true, cond_both}
use Rattle.vn_types.specs.declared.address.Ip4.{Ip4}
use Rattle.vn_types.specs.declared.address.Prefix.{Prefix}
use Rattle.vn_types.specs.declared.interface.IfOf.{IfOf}
use Rattle.vn_types.specs.declared.interface.IfOf.TheVariants.{Half}
use Rattle.vn_types.specs.Interfaces.{if_same}
use Rattle.vn_types.proofs.InterfaceNames.{if_same-Decides}
use Rattle.vn_rules.specs.declared.address.AddrOf.{AddrOf}
use Rattle.vn_rules.specs.declared.route.TargetOf.TheVariants.{Link, Gateway}
use Rattle.vn_rules.specs.declared.parts.PartsOf.{PartsOf}
use Rattle.vn_rules.specs.Addresses.{prefix_of, is_same, is_address_of, without_address}
use Rattle.vn_rules.specs.Networks.{network_of, lies_in, is_network}
use Rattle.vn_rules.specs.Orders.{are_rising, are_routes}
use Rattle.vn_rules.specs.Purge.{routes_without}
use Rattle.vn_rules.specs.Routes.{Routed, prefix_cmp, target_if, is_link_on, is_link_to, is_stranded, covers, without_link, after_unlink, after_purge_routes}
use Rattle.vn_rules.specs.Soundness.{is_founded}
use Rattle.vn_rules.proofs.Kept.{all_filtered, any_filter, rising_kept, keys_kept}
use Rattle.vn_rules.proofs.ListTests.{all_filter, all_weaker}
use Rattle.vn_rules.proofs.OrderLaws.{prefix_cmp_total}
use Rattle.vn_rules.proofs.RouteChoice.{prefix-exact}

-- ---- prefixes

pub prefix_ties : (p : Prefix) → is_at (prefix_cmp p) p ≡ true
prefix_ties p = ap is_eq (tied_itself prefix_cmp_total p)

-- ---- routes that are filtered

module _ {N : Type 0} (k : Routed N → Bool) where
  pub are_routes-kept : (rs : List (Routed N)) → are_routes rs ≡ true → are_routes (filter k rs) ≡ true
  unfolding are_routes
  are_routes-kept rs right =
      let parts = and_parts (are_rising prefix_cmp (keys_of rs)) (list_all is_network (keys_of rs)) right in
      and_from _ _ (rising_kept prefix_cmp k rs parts.0) (keys_kept prefix_cmp k is_network rs parts.1)

module _ {N : Type 0} (same : N → N → Bool) (a : AddrOf N) (left : List (AddrOf N)) (rs : List (Routed N)) where
  -- what holds of all routes, and of those without the interface route, holds of those that are left
  routes_without-P : (P : List (Routed N) → Type 0) → P rs → P (after_unlink same (prefix_of a) a.on rs) → P (routes_without same a left rs)
  routes_without-P P all less = cond_both (list_any (is_address_of same a.on (prefix_of a)) left) rs (after_unlink same (prefix_of a) a.on rs) P (λ e. all) (λ e. less)

  pub are_routes-without : are_routes rs ≡ true → are_routes (routes_without same a left rs) ≡ true
  are_routes-without right = routes_without-P (λ ws. are_routes ws ≡ true) right (are_routes-kept _ (without_link same (prefix_of a) a.on rs) (are_routes-kept _ rs right))

  pub all-without : (t : Routed N → Bool) → list_all t rs ≡ true → list_all t (routes_without same a left rs) ≡ true
  all-without t all = routes_without-P (λ ws. list_all t ws ≡ true) all (all_filter _ t (without_link same (prefix_of a) a.on rs) (all_filter _ t rs all))

module _ {N : Type 0} (same : N → N → Bool) (decides : (a b : N) → Decides (same a b) (a ≡ b)) where
  if_decides : (a b : IfOf N) → Decides (if_same same a b) (a ≡ b)
  if_decides = if_same-Decides same decides

  pub if_flip : (a b : IfOf N) → if_same same a b ≡ if_same same b a
  if_flip a b = by (if_same same a b) (if_same same b a) refl refl
    where
      turn : (x y : IfOf N) → if_same same x y ≡ true → if_same same y x ≡ true
      turn x y e = (if_decides y x).1 (sym ((if_decides x y).0 e))

      by : (c d : Bool) → if_same same a b ≡ c → if_same same b a ≡ d → c ≡ d
      by true true e f = refl
      by false false e f = refl
      by true false e f = sym (turn a b e) ∙ f
      by false true e f = sym e ∙ turn b a f

  -- ---- what is covered

  -- gateway routes cover nothing
  pub covers-stranded : (on own : IfOf N) (ip : Ip4) (ls rs : List (Routed N)) → covers same own ip (filter (λ (e : Routed N). not (is_stranded same on ls e.1)) rs) ≡ covers same own ip rs
  unfolding covers
  covers-stranded on own ip ls rs = any_filter (λ e. is_link_on same own e.1 && lies_in ip e.0) (λ e. not (is_stranded same on ls e.1)) rs by
    where
      by : (e : Routed N) → not (is_stranded same on ls e.1) ≡ false → (is_link_on same own e.1 && lies_in ip e.0) ≡ false
      by (to, Link o) goes = absurd (true≢false goes)
      by (to, Gateway via half) goes = refl

  -- a route by one interface is none by another
  not_link : (on own o : IfOf N) → if_same same own on ≡ false → if_same same o on ≡ true → if_same same o own ≡ false
  not_link on own o apart there = false_from_ne_true _ (λ e. both_ways (if_same same own on) apart ((if_decides own on).1 (sym ((if_decides o own).0 e) ∙ (if_decides o on).0 there)))

  covers-unlinked : (on own : IfOf N) (to : Prefix) (ip : Ip4) (rs : List (Routed N)) → if_same same own on ≡ false → covers same own ip (without_link same to on rs) ≡ covers same own ip rs
  unfolding covers
  covers-unlinked on own to ip rs apart = any_filter (λ e. is_link_on same own e.1 && lies_in ip e.0) (λ e. not (is_link_to same to on e)) rs by
    where
      by : (e : Routed N) → not (is_link_to same to on e) ≡ false → (is_link_on same own e.1 && lies_in ip e.0) ≡ false
      by (q, Link o) goes = and_left _ _ (not_link on own o apart (and_parts (is_at (prefix_cmp to) q) (if_same same o on) (not-false _ goes)).1)
      by (q, Gateway via half) goes = refl

  -- the interface routes of other interfaces stay
  pub covers-unlink : (on own : IfOf N) (to : Prefix) (ip : Ip4) (rs : List (Routed N)) → if_same same own on ≡ false → covers same own ip (after_unlink same to on rs) ≡ covers same own ip rs
  covers-unlink on own to ip rs apart = covers-stranded on own ip (without_link same to on rs) (without_link same to on rs) ∙ covers-unlinked on own to ip rs apart

  pub covers-purge : (on own : IfOf N) (ip : Ip4) (rs : List (Routed N)) → if_same same own on ≡ false → covers same own ip (after_purge_routes same on rs) ≡ covers same own ip rs
  unfolding covers
  covers-purge on own ip rs apart = any_filter (λ e. is_link_on same own e.1 && lies_in ip e.0) (λ e. not (if_same same (target_if e.1) on)) rs by
    where
      by : (e : Routed N) → not (if_same same (target_if e.1) on) ≡ false → (is_link_on same own e.1 && lies_in ip e.0) ≡ false
      by (q, Link o) goes = and_left _ _ (not_link on own o apart (not-false _ goes))
      by (q, Gateway via half) goes = refl

  -- ---- an address that is gone

  module _ (a : AddrOf N) (addresses : List (AddrOf N)) where
    abbrev left : List (AddrOf N)
    left = without_address same (Some a) addresses

    -- an address that is the same is of the same networks
    same_network : (x : AddrOf N) (own : IfOf N) (to : Prefix) → is_same same a x ≡ true → is_address_of same own to x ≡ true → is_link_to same (prefix_of a) a.on (to, Link own) ≡ true
    unfolding lies_in
    same_network x own to one of =
        let s = and_parts _ (x.len == a.len) one in
        let t = and_parts (if_same same x.on a.on) (x.ip.0 == a.ip.0) s.0 in
        let o = and_parts _ (lies_in x.ip to) of in
        let n = and_parts (if_same same x.on own) (x.len == to.len) o.0 in
        let on : own ≡ a.on = sym ((if_decides x.on own).0 n.0) ∙ (if_decides x.on a.on).0 t.0 in
        let len : a.len ≡ to.len = sym (eqb-true x.len a.len s.1) ∙ eqb-true x.len to.len n.1 in
        let ip : a.ip.0 ≡ x.ip.0 = sym (eqb-true x.ip.0 a.ip.0 t.1) in
        let net : (network_of a.ip a.len).0 ≡ to.net.0 = (λ i. (network_of (record { 0 = ip i }) (len i)).0) ∙ eqb-true _ _ o.1 in
        let prefix : prefix_of a ≡ to = λ i. record { net = record { 0 = net i }; len = len i } in
        and_from _ _ ((λ i. is_at (prefix_cmp (prefix_of a)) (sym prefix i)) ∙ prefix_ties (prefix_of a)) ((if_decides own a.on).1 on)

    -- other networks keep their addresses
    kept_network : (own : IfOf N) (to : Prefix) → is_link_to same (prefix_of a) a.on (to, Link own) ≡ false → list_any (is_address_of same own to) left ≡ list_any (is_address_of same own to) addresses
    kept_network own to other = any_filter (is_address_of same own to) (λ b. not (is_same same a b)) addresses
        (λ x goes. false_from_ne_true _ (λ of. both_ways _ other (same_network x own to (not-false _ goes) of)))

    -- and this one, where another address has it
    founded_left : list_any (is_address_of same a.on (prefix_of a)) left ≡ true → (own : IfOf N) (to : Prefix) → list_any (is_address_of same own to) addresses ≡ true → list_any (is_address_of same own to) left ≡ true
    founded_left another own to any = by (is_link_to same (prefix_of a) a.on (to, Link own)) refl
      where
        by : (b : Bool) → is_link_to same (prefix_of a) a.on (to, Link own) ≡ b → list_any (is_address_of same own to) left ≡ true
        by true is =
            let parts = and_parts (is_at (prefix_cmp (prefix_of a)) to) (if_same same own a.on) is in
            (λ i. list_any (is_address_of same ((if_decides own a.on).0 parts.1 i) (sym (prefix-exact (prefix_of a) to parts.0) i)) left) ∙ another
        by false is = kept_network own to is ∙ any

  module _ (a : AddrOf N) (p q : PartsOf N) (is_left : q.addresses ≡ without_address same (Some a) p.addresses) where
    -- whether it stands, and is not the interface route that goes
    abbrev stands : Routed N → Bool
    stands e = is_founded same p e && not (is_link_to same (prefix_of a) a.on e)

    pub founded-without : q.routes ≡ routes_without same a q.addresses p.routes → list_all (is_founded same p) p.routes ≡ true → list_all (is_founded same q) q.routes ≡ true
    founded-without routes founded = ap (list_all (is_founded same q)) routes ∙ by (list_any (is_address_of same a.on (prefix_of a)) q.addresses) refl routes
      where
        mine : List (Routed N)
        mine = after_unlink same (prefix_of a) a.on p.routes

        linked : List (Routed N)
        linked = without_link same (prefix_of a) a.on p.routes

        stays : list_any (is_address_of same a.on (prefix_of a)) q.addresses ≡ true → q.routes ≡ p.routes → (e : Routed N) → is_founded same p e ≡ true → is_founded same q e ≡ true
        stays another rs (to, Link own) is =
            ap (list_any (is_address_of same own to)) is_left ∙ founded_left a p.addresses (ap (list_any (is_address_of same a.on (prefix_of a))) (sym is_left) ∙ another) own to is
        stays another rs (to, Gateway via half) is = ap (covers same (Half half) via) rs ∙ is

        covered : (via : Ip4) (half : N) (b c : Bool) → if_same same (Half half) a.on ≡ b → covers same (Half half) via linked ≡ c → covers same (Half half) via p.routes ≡ true → not (b && not c) ≡ true → covers same (Half half) via mine ≡ true
        covered via half false c apart is old keeps = covers-unlink a.on (Half half) (prefix_of a) via p.routes apart ∙ old
        covered via half true true there is old keeps = covers-stranded a.on (Half half) via linked linked ∙ is
        covered via half true false there is old keeps = absurd (false≢true keeps)

        goes : q.routes ≡ mine → (e : Routed N) → not (is_stranded same a.on linked e.1) ≡ true → stands e ≡ true → is_founded same q e ≡ true
        goes rs (to, Link own) kept is =
            let parts = and_parts (is_founded same p (to, Link own)) _ is in
            ap (list_any (is_address_of same own to)) is_left ∙ kept_network a p.addresses own to (not-true _ parts.1) ∙ parts.0
        goes rs (to, Gateway via half) kept is =
            let parts = and_parts (is_founded same p (to, Gateway via half)) _ is in
            ap (covers same (Half half) via) rs ∙ covered via half (if_same same (Half half) a.on) (covers same (Half half) via linked) refl refl parts.0 kept

        by : (b : Bool) → list_any (is_address_of same a.on (prefix_of a)) q.addresses ≡ b → q.routes ≡ cond b p.routes mine → list_all (is_founded same q) (cond b p.routes mine) ≡ true
        by true another rs = all_weaker (is_founded same p) (is_founded same q) (stays another rs) p.routes founded
        by false none rs = all_filtered stands (is_founded same q) (λ e. not (is_stranded same a.on linked e.1)) linked (goes rs)
            (all_filtered (is_founded same p) stands (λ e. not (is_link_to same (prefix_of a) a.on e)) p.routes (λ e kept is. and_from _ _ is kept) founded)

  pub covers-without : (a : AddrOf N) (left : List (AddrOf N)) (rs : List (Routed N)) (own : IfOf N) (ip : Ip4) → if_same same own a.on ≡ false → covers same own ip (routes_without same a left rs) ≡ covers same own ip rs
  covers-without a left rs own ip apart = routes_without-P same a left rs (λ ws. covers same own ip ws ≡ covers same own ip rs) refl (covers-unlink a.on own (prefix_of a) ip rs apart)
