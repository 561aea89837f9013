-- Routes that come or go by a command: the parts stay sound.
use Rattle.std.proofs.Common.{◌≡◌, Bool, true, false, cond, not, ◌&&◌, ◌||◌, is_some, List, [], ◌∷◌, Option, Some, None, refl, sym, ap, ◌∙◌, is_none}
use Rattle.std.specs.Bool.{Decides}
use Rattle.std.specs.BTreeMap.{is_at, insert_entry}
use Rattle.std.specs.List.{list_any, list_all, filter}
use Rattle.std.specs.Map.{lookup, remove_entry}
use Rattle.std.specs.Option.{IfSome, option_map, option_map_or}
use Rattle.std.specs.Ordering.{is_eq, match_ordering}
use Rattle.std.specs.declared.cmp.Ordering.{Ordering}
use Rattle.std.specs.declared.cmp.Ordering.TheVariants.{Less, Equal, Greater}
use Rattle.std.proofs.lemmas.Bool.{and_parts, and_from, or_left, or_right, both_ways, not-true, false≢true}
use Rattle.vn_types.proofs.Options.{none_some, some_same}
use Rattle.vn_types.specs.declared.address.Ip4.{Ip4}
use Rattle.vn_types.specs.declared.address.Prefix.{Prefix}
use Rattle.vn_types.specs.declared.interface.IfOf.{IfOf}
use Rattle.vn_types.specs.declared.interface.IfOf.TheVariants.{Lo0, Half}
use Rattle.vn_types.specs.declared.errno.Errno.TheVariants.{Exist, NetUnreach}
use Rattle.vn_types.specs.Refusals.{first_refusal}
use Rattle.vn_types.specs.Interfaces.{if_same}
use Rattle.vn_types.proofs.InterfaceNames.{if_same-Decides}
use Rattle.vn_rules.specs.declared.arp.ArpEntryOf.{ArpEntryOf}
use Rattle.vn_rules.specs.declared.route.TargetOf.{TargetOf}
use Rattle.vn_rules.specs.declared.route.TargetOf.TheVariants.{Link, Gateway}
use Rattle.vn_rules.specs.declared.parts.PartsOf.{PartsOf}
use Rattle.vn_rules.specs.Interfaces.{is_among}
use Rattle.vn_rules.specs.Networks.{lies_in, is_network}
use Rattle.vn_rules.specs.Orders.{are_routes}
use Rattle.vn_rules.specs.Routes.{Routed, prefix_cmp, target_if, is_link, is_link_on, covers, covers_ip, longer, longest, longest_among, route_at, half_in, gateway_half, gateway_refusal, after_gateway, with_gateway, has_gateway, after_delete}
use Rattle.vn_rules.specs.Soundness.{binds_locally, sends_locally, times_arp, is_founded, covers_arp, founds_routes, is_sound_parts}
use Rattle.vn_rules.proofs.Kept.{all_filtered, all_from_none, from_any}
use Rattle.vn_rules.proofs.ListTests.{all_weaker}
use Rattle.vn_rules.proofs.Named.{NamesPass, own_names}
use Rattle.vn_rules.proofs.RouteEdits.{are_routes-insert, are_routes-remove}
use Rattle.vn_rules.proofs.SoundEdits.{tabled-sound}
use Rattle.vn_rules.proofs.SoundFacts.{SoundFacts, facts_from_sound}

-- ---- an entry that comes, where its key has none, or has that value

module _ {K V : Type 0} (cmp : K → K → Ordering) (k : K) (v : V) (t : K × V → Bool) where
  -- what stands under the key is the value
  abbrev Fits : List (K × V) → Type 0
  Fits es = (w : V) → lookup (is_at (cmp k)) es ≡ Some w → w ≡ v

  inserted-all : (es : List (K × V)) → Fits es → t (k, v) ≡ true → list_all t es ≡ true → list_all t (insert_entry cmp es k v) ≡ true
  inserted-all [] fits new all = and_from _ _ new refl
  inserted-all (e ∷ es) fits new all = let parts = and_parts (t e) (list_all t es) all in by (cmp k e.0) fits parts.0 parts.1 (λ f. inserted-all es f new parts.1)
    where
      by : (r : Ordering) → ((w : V) → cond (is_eq r) (Some e.1) (lookup (is_at (cmp k)) es) ≡ Some w → w ≡ v) → t e ≡ true → list_all t es ≡ true
          → (Fits es → list_all t (insert_entry cmp es k v) ≡ true)
          → list_all t (match_ordering r ((k, v) ∷ e ∷ es) ((e.0, v) ∷ es) (e ∷ insert_entry cmp es k v)) ≡ true
      by Less f here rest more = and_from _ _ new all
      by Equal f here rest more = and_from _ _ (ap (λ w. t (e.0, w)) (sym (f e.1 refl)) ∙ here) rest
      by Greater f here rest more = and_from _ _ here (more f)

  inserted-any : (es : List (K × V)) → Fits es → list_any t es ≡ true → list_any t (insert_entry cmp es k v) ≡ true
  inserted-any [] fits any = absurd (false≢true any)
  inserted-any (e ∷ es) fits any = by (cmp k e.0) fits (λ f. inserted-any es f) (t e) refl any
    where
      by : (r : Ordering) → ((w : V) → cond (is_eq r) (Some e.1) (lookup (is_at (cmp k)) es) ≡ Some w → w ≡ v)
          → (Fits es → list_any t es ≡ true → list_any t (insert_entry cmp es k v) ≡ true)
          → (b : Bool) → t e ≡ b → b || list_any t es ≡ true
          → list_any t (match_ordering r ((k, v) ∷ e ∷ es) ((e.0, v) ∷ es) (e ∷ insert_entry cmp es k v)) ≡ true
      by Less f more true is found = or_right (t (k, v)) _ (or_left (t e) _ is)
      by Less f more false is found = or_right (t (k, v)) _ (or_right (t e) _ found)
      by Equal f more true is found = or_left (t (e.0, v)) _ (ap (λ w. t (e.0, w)) (sym (f e.1 refl)) ∙ is)
      by Equal f more false is found = or_right (t (e.0, v)) _ found
      by Greater f more true is found = or_left (t e) _ is
      by Greater f more false is found = or_right (t e) _ (more f found)

-- ---- an entry that goes

module _ {K V : Type 0} (test : K → Bool) (t : K × V → Bool) where
  removed-all : (es : List (K × V)) → list_all t es ≡ true → list_all t (remove_entry test es) ≡ true
  removed-all [] all = refl
  removed-all (e ∷ es) all = let parts = and_parts (t e) (list_all t es) all in by (test e.0) parts.0 parts.1 (removed-all es parts.1)
    where
      by : (b : Bool) → t e ≡ true → list_all t es ≡ true → list_all t (remove_entry test es) ≡ true → list_all t (cond b es (e ∷ remove_entry test es)) ≡ true
      by true here rest more = rest
      by false here rest more = and_from _ _ here more

  -- what a test finds stays, where the entry that goes doesn't pass it
  removed-any : (es : List (K × V)) → ((w : V) → lookup test es ≡ Some w → (k : K) → t (k, w) ≡ false) → list_any t (remove_entry test es) ≡ list_any t es
  removed-any [] fails = refl
  removed-any (e ∷ es) fails = by (test e.0) fails (removed-any es)
    where
      by : (b : Bool) → ((w : V) → cond b (Some e.1) (lookup test es) ≡ Some w → (k : K) → t (k, w) ≡ false)
          → (((w : V) → lookup test es ≡ Some w → (k : K) → t (k, w) ≡ false) → list_any t (remove_entry test es) ≡ list_any t es)
          → list_any t (cond b es (e ∷ remove_entry test es)) ≡ (t e || list_any t es)
      by true f more = sym (ap (λ b. b || list_any t es) (f e.1 refl e.0))
      by false f more = ap (λ b. t e || b) (more f)

-- ---- a gateway is beyond a half that covers it

module _ {N : Type 0} where
  longest-passes : (t : Routed N → Bool) (es : List (Routed N)) → list_all t es ≡ true → IfSome (longest es) (λ e. t e ≡ true)
  longest-passes t [] all = tt
  longest-passes t (e ∷ es) all = let parts = and_parts (t e) (list_all t es) all in by (longest es) parts.0 (longest-passes t es parts.1)
    where
      test : (f : Routed N) → t e ≡ true → t f ≡ true → (b : Bool) → t (cond b f e) ≡ true
      test f here is true = is
      test f here is false = here

      by : (o : Option (Routed N)) → t e ≡ true → IfSome o (λ e. t e ≡ true) → t (longer e o) ≡ true
      by None here is = here
      by (Some f) here is = test f here is _

module _ {N : Type 0} (same : N → N → Bool) (decides : (a b : N) → Decides (same a b) (a ≡ b)) where
  pub gateway-covered : (via : Ip4) (half : N) (routes : List (Routed N)) → gateway_half via routes ≡ Some half → covers same (Half half) via routes ≡ true
  unfolding covers
  gateway-covered via half routes found = by (covers same (Half half) via routes) refl
    where
      link : (e : Routed N) → (is_link e.1 && covers_ip via e) ≡ true → not (is_link_on same (Half half) e.1 && lies_in via e.0) ≡ true → not (if_same same (target_if e.1) (Half half)) ≡ true
      link (to, Link own) passes none = both (if_same same own (Half half)) (lies_in via to) passes none
        where
          both : (b c : Bool) → c ≡ true → not (b && c) ≡ true → not b ≡ true
          both true true e f = f
          both true false e f = absurd (false≢true e)
          both false c e f = refl
      link (to, Gateway g h) passes none = absurd (false≢true passes)

      clash : (o : Option (Routed N)) → IfSome o (λ e. not (if_same same (target_if e.1) (Half half)) ≡ true) → half_in (option_map (λ (e : Routed N). target_if e.1) o) ≡ Some half → ⊥
      clash None passes is = absurd (none_some half is)
      clash (Some e) passes is = at (target_if e.1) passes is
        where
          at : (on : IfOf N) → not (if_same same on (Half half)) ≡ true → half_in (Some on) ≡ Some half → ⊥
          at Lo0 other is = none_some half is
          at (Half h) other is = both_ways (same h half) (not-true _ other) ((decides h half).1 (some_same h half is))

      by : (b : Bool) → covers same (Half half) via routes ≡ b → b ≡ true
      by true is = refl
      by false is = absurd (clash (longest_among is_link via routes)
          (longest-passes (λ (e : Routed N). not (if_same same (target_if e.1) (Half half))) (filter (λ (e : Routed N). is_link e.1 && covers_ip via e) routes)
          (all_filtered (λ (e : Routed N). not (is_link_on same (Half half) e.1 && lies_in via e.0)) (λ (e : Routed N). not (if_same same (target_if e.1) (Half half))) (λ (e : Routed N). is_link e.1 && covers_ip via e) routes link
          (all_from_none (λ (e : Routed N). is_link_on same (Half half) e.1 && lies_in via e.0) routes is)))
          found)

  -- ---- soundness

  module _ (p : PartsOf N) (rs : List (Routed N)) where
    abbrev with_routes : PartsOf N
    with_routes = record p { routes = rs }

    pub with_routes-sound : are_routes rs ≡ true → list_all (λ (e : Routed N). is_among same p.interfaces (target_if e.1)) rs ≡ true
        → list_all (λ (e : ArpEntryOf N). covers same (Half e.half) e.ip rs) p.arp ≡ true → list_all (is_founded same (record p { routes = rs })) rs ≡ true
        → is_sound_parts same p ≡ true → is_sound_parts same (record p { routes = rs }) ≡ true
    unfolding binds_locally sends_locally covers_arp founds_routes
    with_routes-sound order names covered founded sound =
        let s = facts_from_sound same (times_arp same) p sound in
        let n = own_names same (times_arp same) p s in
        let named : NamesPass (is_among same p.interfaces) with_routes = record { addresses = n.addresses; routes = names; arp = n.arp; pings = n.pings; grams = n.grams } in
        tabled-sound same p with_routes s named s.bound s.sources covered founded s.variables s.addresses order s.sockets

  module _ (p : PartsOf N) (sound : is_sound_parts same p ≡ true) where
    facts : SoundFacts same (times_arp same) p
    facts = facts_from_sound same (times_arp same) p sound

    named : NamesPass (is_among same p.interfaces) p
    named = own_names same (times_arp same) p facts

    module _ (to : Prefix) (target : TargetOf N) (network : is_network to ≡ true) (fits : (w : TargetOf N) → route_at to p.routes ≡ Some w → w ≡ target) where
      abbrev more : List (Routed N)
      more = insert_entry prefix_cmp p.routes to target

      still_covered : (on : IfOf N) (ip : Ip4) → covers same on ip p.routes ≡ true → covers same on ip more ≡ true
      unfolding covers
      still_covered on ip is = inserted-any prefix_cmp to target (λ (e : Routed N). is_link_on same on e.1 && lies_in ip e.0) p.routes fits is

      still_founded : (e : Routed N) → is_founded same p e ≡ true → is_founded same (record p { routes = more }) e ≡ true
      still_founded (q, Link on) is = is
      still_founded (q, Gateway via half) is = still_covered (Half half) via is

      -- a route of an interface that stands there, with what it stands on, where its prefix has none or it
      pub insert-sound : is_among same p.interfaces (target_if target) ≡ true → is_founded same (record p { routes = more }) (to, target) ≡ true → is_sound_parts same (record p { routes = more }) ≡ true
      unfolding covers_arp founds_routes
      insert-sound own stands = with_routes-sound p more (are_routes-insert to target p.routes network facts.routes)
          (inserted-all prefix_cmp to target (λ (e : Routed N). is_among same p.interfaces (target_if e.1)) p.routes fits own named.routes)
          (all_weaker (λ (e : ArpEntryOf N). covers same (Half e.half) e.ip p.routes) (λ (e : ArpEntryOf N). covers same (Half e.half) e.ip more) (λ e. still_covered (Half e.half) e.ip) p.arp facts.arp_covered)
          (inserted-all prefix_cmp to target (is_founded same (record p { routes = more })) p.routes fits stands (all_weaker (is_founded same p) (is_founded same (record p { routes = more })) still_founded p.routes facts.founded))
          sound

  -- ---- commands on routes

  module _ (p : PartsOf N) (sound : is_sound_parts same p ≡ true) where
    -- the half of a gateway stands there
    pub gateway-own : (via : Ip4) (half : N) → gateway_half via p.routes ≡ Some half → is_among same p.interfaces (Half half) ≡ true
    unfolding covers
    gateway-own via half found = from_any (λ (e : Routed N). is_link_on same (Half half) e.1 && lies_in via e.0) (λ (e : Routed N). is_among same p.interfaces (target_if e.1)) (is_among same p.interfaces (Half half)) p.routes by
        (gateway-covered via half p.routes found) (named p sound).routes
      where
        by : (e : Routed N) → (is_link_on same (Half half) e.1 && lies_in via e.0) ≡ true → is_among same p.interfaces (target_if e.1) ≡ true → is_among same p.interfaces (Half half) ≡ true
        by (to, Link own) link is = ap (is_among same p.interfaces) (sym ((if_same-Decides same decides own (Half half)).0 (and_parts (if_same same own (Half half)) (lies_in via to) link).0)) ∙ is
        by (to, Gateway g h) link is = absurd (false≢true link)

    pub after_gateway-sound : (to : Prefix) (via : Ip4) → is_network to ≡ true → gateway_refusal to via p.routes ≡ None → is_sound_parts same (record p { routes = after_gateway to via p.routes }) ≡ true
    after_gateway-sound to via network none = by (gateway_half via p.routes) refl
      where
        free : (o : Option (TargetOf N)) (c : Bool) → first_refusal ((is_some o, Exist) ∷ (c, NetUnreach) ∷ []) ≡ None → (t w : TargetOf N) → o ≡ Some w → w ≡ t
        free None c e t w is = absurd (none_some w is)
        free (Some x) c e t w is = absurd (none_some Exist (sym e))

        by : (o : Option N) → gateway_half via p.routes ≡ o → is_sound_parts same (record p { routes = with_gateway to via o p.routes }) ≡ true
        by None found = sound
        by (Some half) found = insert-sound p sound to (Gateway via half) network (free (route_at to p.routes) (is_none (gateway_half via p.routes)) none (Gateway via half)) (gateway-own via half found)
            (still_covered p sound to (Gateway via half) network (free (route_at to p.routes) (is_none (gateway_half via p.routes)) none (Gateway via half)) (Half half) via (gateway-covered via half p.routes found))

    pub after_delete-sound : (to : Prefix) → has_gateway to p.routes ≡ true → is_sound_parts same (record p { routes = after_delete to p.routes }) ≡ true
    unfolding covers covers_arp founds_routes
    after_delete-sound to gateway = with_routes-sound p (after_delete to p.routes) (are_routes-remove (is_at (prefix_cmp to)) p.routes (facts p sound).routes)
        (removed-all (is_at (prefix_cmp to)) (λ (e : Routed N). is_among same p.interfaces (target_if e.1)) p.routes (named p sound).routes)
        (all_weaker (λ (e : ArpEntryOf N). covers same (Half e.half) e.ip p.routes) (λ (e : ArpEntryOf N). covers same (Half e.half) e.ip (after_delete to p.routes)) (λ e is. same_cover (Half e.half) e.ip ∙ is) p.arp (facts p sound).arp_covered)
        (removed-all (is_at (prefix_cmp to)) (is_founded same (record p { routes = after_delete to p.routes })) p.routes (all_weaker (is_founded same p) (is_founded same (record p { routes = after_delete to p.routes })) founded p.routes (facts p sound).founded))
        sound
      where
        no_link : (o : Option (TargetOf N)) → option_map_or (λ t. not (is_link t)) o false ≡ true → (on : IfOf N) (ip : Ip4) (w : TargetOf N) → o ≡ Some w → (k : Prefix) → (is_link_on same on w && lies_in ip k) ≡ false
        no_link None is on ip w e k = absurd (false≢true is)
        no_link (Some (Link own)) is on ip w e k = absurd (false≢true is)
        no_link (Some (Gateway via half)) is on ip w e k = ap (λ t. is_link_on same on t && lies_in ip k) (sym (some_same (Gateway via half) w e))

        same_cover : (on : IfOf N) (ip : Ip4) → covers same on ip (after_delete to p.routes) ≡ covers same on ip p.routes
        same_cover on ip = removed-any (is_at (prefix_cmp to)) (λ (e : Routed N). is_link_on same on e.1 && lies_in ip e.0) p.routes (no_link (route_at to p.routes) gateway on ip)

        founded : (e : Routed N) → is_founded same p e ≡ true → is_founded same (record p { routes = after_delete to p.routes }) e ≡ true
        founded (q, Link on) is = is
        founded (q, Gateway via half) is = same_cover (Half half) via ∙ is
