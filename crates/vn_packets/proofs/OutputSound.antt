-- Output leaves a scene sound where nothing refuses it.
use Rattle.std.proofs.Common.{◌≡◌, ℕ, Bool, true, false, cond, ◌&&◌, nat_le, List, length, Option, Some, None, Contains, refl, sym, ap, ◌∙◌}
use Rattle.std.specs.Bool.{Decides}
use Rattle.std.specs.List.{list_all}
use Rattle.std.specs.Option.{IfSome}
use Rattle.std.proofs.lemmas.Bool.{and_parts, and_from, false≢true}
use Rattle.std.proofs.lemmas.List.Elements.{All-contains}
use Rattle.std.proofs.lemmas.List.Folds.{list_any-from_Any}
use Rattle.std.proofs.lemmas.List.Sums.{AllPass-from_list_all}
use Rattle.vn_types.proofs.RefusalLaws.{none-applies}
use Rattle.vn_types.specs.declared.address.Ip4.{Ip4}
use Rattle.vn_types.specs.declared.errno.Errno.{Errno}
use Rattle.vn_types.specs.declared.errno.Errno.TheVariants as errno
use Rattle.vn_types.specs.declared.interface.IfOf.TheVariants.{Lo0, Half}
use Rattle.vn_types.specs.Interfaces.{if_same}
use Rattle.vn_types.specs.Refusals.{first_refusal}
use Rattle.vn_types.proofs.InterfaceNames.{if_same-Decides}
use Rattle.vn_rules.specs.declared.parts.PartsOf.{PartsOf}
use Rattle.vn_rules.specs.declared.parts.TheConstants.{LOOPBACK_MAX}
use Rattle.vn_rules.specs.declared.route.TargetOf.TheVariants.{Link, Gateway}
use Rattle.vn_rules.specs.Addresses.{local}
use Rattle.vn_rules.specs.Arp.{is_down}
use Rattle.vn_rules.specs.Interfaces.{is_among}
use Rattle.vn_rules.specs.Networks.{lies_in}
use Rattle.vn_rules.specs.Routes.{Routed, covers_ip, covers, is_link_on, lookup, target_if, IsLongest}
use Rattle.vn_rules.specs.Rules.{Common}
use Rattle.vn_rules.specs.Scenes.{SceneOf, is_sound_scene}
use Rattle.vn_rules.specs.Soundness.{is_founded, founds_routes, times_arp, is_sound_parts}
use Rattle.vn_rules.proofs.Kept.{from_any}
use Rattle.vn_rules.proofs.Named.{own_names}
use Rattle.vn_rules.proofs.RouteChoice.{lookup-longest}
use Rattle.vn_packets.specs.declared.outgoing.Outgoing.{Outgoing}
use Rattle.vn_packets.specs.Drops.{on_parts}
use Rattle.vn_packets.specs.Output.{WayOf, Nowhere, Looped, By, may_not_reach, way_along, way_to, output_refusals, way_refusals, identified, sent_along, next_datagram, output_left}
use Rattle.vn_packets.proofs.SceneSound.{Keeps, keeps-refl, keeps-then, parts-sound, sound_facts, identified-keeps, looped-keeps}
use Rattle.vn_packets.proofs.ArpPacketSound.{carried-keeps}

module _ {N : Type 0} (same : N → N → Bool) (decides : (a b : N) → Decides (same a b) (a ≡ b)) where
  -- ---- the way of a sound stack

  half_by : WayOf N → N → N
  half_by (By h hop) other = h
  half_by _ other = other

  hop_by : WayOf N → Ip4 → Ip4
  hop_by (By h hop) other = hop
  hop_by _ other = other

  half : {g h : N} {a b : Ip4} → By g a ≡ By h b → g ≡ h
  unfolding half_by
  half {g = g} is = ap (λ w. half_by w g) is

  next : {g h : N} {a b : Ip4} → By g a ≡ By h b → a ≡ b
  unfolding hop_by
  next {a = a} is = ap (λ w. hop_by w a) is

  module _ (p : PartsOf N) (sound : is_sound_parts same p ≡ true) where
    -- what each route passes, the one that was found passes
    found-passes : (t : Routed N → Bool) (e : Routed N) → Contains p.routes e → list_all t p.routes ≡ true → t e ≡ true
    found-passes t e stands all = All-contains (λ f. t f ≡ true) p.routes e (AllPass-from_list_all t p.routes all) stands

    -- an interface route of a half covers what lies in its network, and a gateway is covered
    along-covered : (ip : Ip4) (e : Routed N) (h : N) (hop : Ip4) → Contains p.routes e → covers_ip ip e ≡ true → way_along ip (Some e) ≡ By h hop → covers same (Half h) hop p.routes ≡ true
    unfolding covers founds_routes
    along-covered ip (to, Link Lo0) h hop stands lies is = absurd (cc)
    along-covered ip (to, Link (Half own)) h hop stands lies is =
        list_any-from_Any (λ (f : Routed N). is_link_on same (Half h) f.1 && lies_in hop f.0) p.routes
        (stands.0, (to, Link (Half own)), stands.1, stands.2, and_from _ _ ((decides own h).1 (half is)) (ap (λ there. lies_in there to) (sym (next is)) ∙ lies))
    along-covered ip (to, Gateway via own) h hop stands lies is =
        (λ i. covers same (Half (sym (half is) i)) (sym (next is) i) p.routes) ∙ found-passes (is_founded same p) (to, Gateway via own) stands (sound_facts same p sound).founded

    pub way-covered : (ip : Ip4) (h : N) (hop : Ip4) → way_to ip p ≡ By h hop → covers same (Half h) hop p.routes ≡ true
    unfolding way_to
    way-covered ip h hop is = by (local ip p.addresses) is
      where
        along : (o : Option (Routed N)) → IfSome o (IsLongest ip p.routes) → way_along ip o ≡ By h hop → covers same (Half h) hop p.routes ≡ true
        along None found is = absurd (cc)
        along (Some e) found is = along-covered ip e h hop found.stands found.covers is

        by : (b : Bool) → cond b Looped (way_along ip (lookup ip p.routes)) ≡ By h hop → covers same (Half h) hop p.routes ≡ true
        by true is = absurd (cc)
        by false is = along (lookup ip p.routes) (lookup-longest ip p.routes) is

    -- a half that covers an address stands there
    pub covering-own : (h : N) (ip : Ip4) → covers same (Half h) ip p.routes ≡ true → is_among same p.interfaces (Half h) ≡ true
    unfolding covers
    covering-own h ip covered =
        from_any (λ (e : Routed N). is_link_on same (Half h) e.1 && lies_in ip e.0) (λ (e : Routed N). is_among same p.interfaces (target_if e.1)) (is_among same p.interfaces (Half h)) p.routes by covered (own_names same (times_arp same) p (sound_facts same p sound)).routes
      where
        by : (e : Routed N) → (is_link_on same (Half h) e.1 && lies_in ip e.0) ≡ true → is_among same p.interfaces (target_if e.1) ≡ true → is_among same p.interfaces (Half h) ≡ true
        by (to, Link on) link is = ap (is_among same p.interfaces) (sym ((if_same-Decides same decides on (Half h)).0 (and_parts (if_same same on (Half h)) (lies_in ip to) link).0)) ∙ is
        by (to, Gateway g own) link is = absurd (false≢true link)

  -- ---- a datagram goes its way

  -- what the way asks for
  abbrev pub Allows : WayOf N → PartsOf N → Type 0
  Allows Nowhere p = Unit {0}
  Allows Looped p = nat_le LOOPBACK_MAX (length p.loopback) ≡ false
  Allows (By h hop) p = is_down same h hop p.arp ≡ false

  pub sent_along-keeps : (ip : Ip4) (common : Common) (datagram : List ℕ) (s : SceneOf N) → is_sound_scene same s ≡ true → Allows (way_to ip s.parts) s.parts
      → Keeps same s (sent_along same (way_to ip s.parts) common datagram s)
  sent_along-keeps ip common datagram s sound allows = by (way_to ip s.parts) refl allows
    where
      by : (w : WayOf N) → way_to ip s.parts ≡ w → Allows w s.parts → Keeps same s (sent_along same w common datagram s)
      by Nowhere is allows = keeps-refl same s sound
      by Looped is allows = looped-keeps same datagram s allows sound
      by (By h hop) is allows =
          let covered = way-covered s.parts (parts-sound same s sound) ip h hop is in
          carried-keeps same decides common h hop datagram s sound (covering-own s.parts (parts-sound same s sound) h hop covered) covered allows

  -- ---- output

  allowed : (w : WayOf N) (no_route : Errno) (send : Outgoing) (s : SceneOf N) → first_refusal (way_refusals same w no_route send s) ≡ None → Allows w s.parts
  allowed Nowhere no_route send s none = tt
  allowed Looped no_route send s none = (none-applies (way_refusals same Looped no_route send s) none).1.0
  allowed (By h hop) no_route send s none = (none-applies (way_refusals same (By h hop) no_route send s) none).1.1.1.0

  allowed-so : (no_route : Errno) (send : Outgoing) (s : SceneOf N) → first_refusal (output_refusals same no_route send s) ≡ None → Allows (way_to send.dst s.parts) s.parts
  unfolding output_refusals
  allowed-so no_route send s none = allowed (way_to send.dst s.parts) no_route send s (tail (may_not_reach send.dst s.parts) none)
    where
      tail : (b : Bool) → cond b (Some errno.Inval) (first_refusal (way_refusals same (way_to send.dst s.parts) no_route send s)) ≡ None → first_refusal (way_refusals same (way_to send.dst s.parts) no_route send s) ≡ None
      tail true none = absurd (cc)
      tail false none = none

  pub output_left-keeps : (common : Common) (no_route : Errno) (send : Outgoing) (s : SceneOf N) → is_sound_scene same s ≡ true → first_refusal (output_refusals same no_route send s) ≡ None
      → Keeps same s (output_left same common send s)
  unfolding output_left way_to
  output_left-keeps common no_route send s sound none =
      keeps-then same s identified_scene (output_left same common send s) (identified-keeps same s sound)
      (λ is. sent_along-keeps send.dst common (next_datagram same send s.parts) identified_scene is (same_way (way_to send.dst s.parts) (allowed-so no_route send s none)))
    where
      identified_scene : SceneOf N
      identified_scene = on_parts identified s

      same_way : (w : WayOf N) → Allows w s.parts → Allows w (identified s.parts)
      same_way Nowhere allows = tt
      same_way Looped allows = allows
      same_way (By h hop) allows = allows
