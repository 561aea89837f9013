-- Output under other names of halves: the way, the source, the refusals, and what is left.
use Rattle.std.proofs.Common.{◌≡◌, ℕ, Bool, cond, not, ◌&&◌, ◌||◌, nat_lt, List, [], ◌∷◌, map, Option, Some, None, unwrap_or, is_some, refl, ap, ap₂, ◌∙◌}
use Rattle.std.specs.Option.{option_map, option_or}
use Rattle.std.specs.Result.{result_map_both}
use Rattle.vn_types.specs.declared.address.Ip4.{Ip4}
use Rattle.vn_types.specs.declared.errno.Errno.{Errno}
use Rattle.vn_types.specs.declared.errno.Errno.TheVariants as errno
use Rattle.vn_types.specs.declared.interface.IfOf.TheVariants.{Lo0, Half}
use Rattle.vn_types.specs.Interfaces.{as_if}
use Rattle.vn_types.specs.Refusals.{first_refusal, unless}
use Rattle.vn_rules.specs.declared.arp.ArpEntryOf.{ArpEntryOf}
use Rattle.vn_rules.specs.declared.parts.PartsOf.{PartsOf}
use Rattle.vn_rules.specs.declared.route.TargetOf.TheVariants.{Link, Gateway}
use Rattle.vn_rules.specs.Networks.{is_no_host, is_loopback}
use Rattle.vn_rules.specs.Renamed.{as_arp, as_routed, renamed}
use Rattle.vn_rules.specs.Routes.{Routed, lookup}
use Rattle.vn_rules.specs.Rules.{Common}
use Rattle.vn_rules.specs.Scenes.{LinkOf, SceneOf, link_of, as_link, renamed_scene}
use Rattle.vn_rules.specs.SocketRefusals.{Conditions}
use Rattle.vn_rules.proofs.AddressLaws.{local-renamed, broadcast-renamed, source_for-renamed}
use Rattle.vn_rules.proofs.ArpLaws.{is_down-renamed, hit-renamed}
use Rattle.vn_rules.proofs.RouteLaws.{lookup-renamed}
use Rattle.vn_rules.proofs.SceneLaws.{link_of-renamed}
use Rattle.vn_packets.specs.declared.outgoing.Outgoing.{Outgoing}
use Rattle.vn_packets.specs.declared.outgoing.TheConstants.{HALF_MTU}
use Rattle.vn_packets.specs.ArpPackets.{unset_ip}
use Rattle.vn_packets.specs.Datagrams.{total_of, datagram_with}
use Rattle.vn_packets.specs.Drops.{on_parts}
use Rattle.vn_packets.specs.Links.{is_link_full}
use Rattle.vn_packets.specs.Output.{WayOf, Nowhere, Looped, By, may_not_reach, way_along, way_to, way_out, source_by, chosen_source, source_of, half_refusals, way_refusals, output_refusals, identified, looped, sent_along, next_datagram, output_left, output_sent, output}
use Rattle.vn_packets.specs.Renamed.{as_way, as_sent, as_output}
use Rattle.vn_packets.proofs.DropLaws.{choice, on_parts-renamed}
use Rattle.vn_packets.proofs.ArpPacketLaws.{carried-renamed}

module _ {N M : Type 0} (r : N → M) where
  -- ---- the way

  pub may_not_reach-renamed : (ip : Ip4) (p : PartsOf N) → may_not_reach ip (renamed r p) ≡ may_not_reach ip p
  unfolding may_not_reach renamed
  may_not_reach-renamed ip p = ap (λ b. is_no_host ip || b) (broadcast-renamed r ip p.addresses)

  pub reach-so : (ip : Ip4) (s : SceneOf N) → may_not_reach ip (renamed_scene r s).parts ≡ may_not_reach ip s.parts
  unfolding renamed_scene
  reach-so ip s = may_not_reach-renamed ip s.parts

  way_along-renamed : (ip : Ip4) (o : Option (Routed N)) → way_along ip (option_map (as_routed r) o) ≡ as_way r (way_along ip o)
  way_along-renamed ip None = refl
  way_along-renamed ip (Some (to, Link Lo0)) = refl
  way_along-renamed ip (Some (to, Link (Half h))) = refl
  way_along-renamed ip (Some (to, Gateway via h)) = refl

  pub way_to-renamed : (ip : Ip4) (p : PartsOf N) → way_to ip (renamed r p) ≡ as_way r (way_to ip p)
  unfolding way_to renamed
  way_to-renamed ip p =
      choice (as_way r) Looped (way_along ip (lookup ip p.routes)) (local-renamed r ip p.addresses) refl
      (ap (way_along ip) (lookup-renamed r ip p.routes) ∙ way_along-renamed ip (lookup ip p.routes))

module _ {N M : Type 0} (r : N → M) (at_n : N → N → Bool) (at_m : M → M → Bool) (faithful : (a b : N) → at_m (r a) (r b) ≡ at_n a b) where
  -- ---- the source

  source_by-renamed : (ip : Ip4) (w : WayOf N) (p : PartsOf N) → source_by at_m ip (as_way r w) (renamed r p) ≡ source_by at_n ip w p
  unfolding renamed
  source_by-renamed ip Nowhere p = refl
  source_by-renamed ip Looped p = ap₂ (λ own o. cond own (Some ip) o) (local-renamed r ip p.addresses) (source_for-renamed r at_n at_m faithful Lo0 ip p.addresses)
  source_by-renamed ip (By h hop) p = source_for-renamed r at_n at_m faithful (Half h) hop p.addresses

  pub chosen_source-renamed : (ip : Ip4) (p : PartsOf N) → chosen_source at_m ip (renamed r p) ≡ chosen_source at_n ip p
  unfolding chosen_source
  chosen_source-renamed ip p = ap (λ w. source_by at_m ip w (renamed r p)) (way_to-renamed r ip p) ∙ source_by-renamed ip (way_to ip p) p

  pub source_of-renamed : (send : Outgoing) (p : PartsOf N) → source_of at_m send (renamed r p) ≡ source_of at_n send p
  unfolding source_of
  source_of-renamed send p = ap (λ o. unwrap_or (option_or send.src o) unset_ip) (chosen_source-renamed send.dst p)

  -- the same of a scene's tables
  source-so : (send : Outgoing) (s : SceneOf N) → source_of at_m send (renamed_scene r s).parts ≡ source_of at_n send s.parts
  unfolding renamed_scene
  source-so send s = source_of-renamed send s.parts

  pub way-so : (ip : Ip4) (s : SceneOf N) → way_to ip (renamed_scene r s).parts ≡ as_way r (way_to ip s.parts)
  unfolding renamed_scene
  way-so ip s = way_to-renamed r ip s.parts

  -- ---- refusals

  half_refusals-renamed : (h : N) (l : LinkOf N) (hop src : Ip4) (send : Outgoing) (entries : List (ArpEntryOf N))
      → half_refusals at_m (r h) (as_link r l) hop src send (map (as_arp r) entries) ≡ half_refusals at_n h l hop src send entries
  half_refusals-renamed h l hop src send entries =
      ap₂ (λ down known. (not l.up, errno.NetDown) ∷ (is_loopback src || is_loopback send.dst, errno.AddrNotAvail) ∷ (nat_lt HALF_MTU (total_of send), errno.MsgSize) ∷ (down, errno.HostDown) ∷ (is_some known && is_link_full l, errno.NoBufs) ∷ [])
      (is_down-renamed r at_n at_m faithful h hop entries) (hit-renamed r at_n at_m faithful h hop entries)

  by_half-renamed : (h : N) (l : LinkOf N) (hop src : Ip4) (send : Outgoing) (s : SceneOf N)
      → half_refusals at_m (r h) (as_link r l) hop src send (renamed_scene r s).parts.arp ≡ half_refusals at_n h l hop src send s.parts.arp
  unfolding renamed_scene renamed
  by_half-renamed h l hop src send s = half_refusals-renamed h l hop src send s.parts.arp

  looped_refusals-renamed : (no_route : Errno) (send : Outgoing) (s : SceneOf N) → way_refusals at_m Looped no_route send (renamed_scene r s) ≡ way_refusals at_n Looped no_route send s
  unfolding renamed_scene renamed
  looped_refusals-renamed no_route send s = refl

  way_refusals-renamed : (w : WayOf N) (no_route : Errno) (send : Outgoing) (s : SceneOf N) → way_refusals at_m (as_way r w) no_route send (renamed_scene r s) ≡ way_refusals at_n w no_route send s
  way_refusals-renamed Nowhere no_route send s = refl
  way_refusals-renamed Looped no_route send s = looped_refusals-renamed no_route send s
  way_refusals-renamed (By h hop) no_route send s =
      ap₂ (λ l src. half_refusals at_m (r h) l hop src send (renamed_scene r s).parts.arp) (link_of-renamed r at_n at_m faithful h s) (source-so send s)
      ∙ by_half-renamed h (link_of at_n h s) hop (source_of at_n send s.parts) send s

  pub output_refusals-renamed : (no_route : Errno) (send : Outgoing) (s : SceneOf N) → output_refusals at_m no_route send (renamed_scene r s) ≡ output_refusals at_n no_route send s
  unfolding output_refusals
  output_refusals-renamed no_route send s =
      ap₂ (λ (far : Bool) (more : Conditions). (far, errno.Inval) ∷ more) (reach-so r send.dst s)
      (ap (λ w. way_refusals at_m w no_route send (renamed_scene r s)) (way-so send.dst s) ∙ way_refusals-renamed (way_to send.dst s.parts) no_route send s)

  -- ---- what is left

  identified-renamed : (p : PartsOf N) → identified (renamed r p) ≡ renamed r (identified p)
  unfolding renamed
  identified-renamed p = refl

  pub looped-renamed : (datagram : List ℕ) (p : PartsOf N) → looped datagram (renamed r p) ≡ renamed r (looped datagram p)
  unfolding renamed
  looped-renamed datagram p = refl

  pub sent_along-renamed : (w : WayOf N) (common : Common) (datagram : List ℕ) (s : SceneOf N) → sent_along at_m (as_way r w) common datagram (renamed_scene r s) ≡ renamed_scene r (sent_along at_n w common datagram s)
  sent_along-renamed Nowhere common datagram s = refl
  sent_along-renamed Looped common datagram s = on_parts-renamed r (looped datagram) (looped datagram) s (looped-renamed datagram s.parts)
  sent_along-renamed (By h hop) common datagram s = carried-renamed r at_n at_m faithful common h hop datagram s

  next-so : (send : Outgoing) (s : SceneOf N) → next_datagram at_m send (renamed_scene r s).parts ≡ next_datagram at_n send s.parts
  unfolding renamed_scene renamed
  next-so send s = ap (λ src. datagram_with s.parts.ident src send) (source_of-renamed send s.parts)

  pub output_left-renamed : (common : Common) (send : Outgoing) (s : SceneOf N) → output_left at_m common send (renamed_scene r s) ≡ renamed_scene r (output_left at_n common send s)
  unfolding output_left
  output_left-renamed common send s =
      ap (λ t. sent_along at_m (way_to send.dst (renamed_scene r s).parts) common (next_datagram at_m send (renamed_scene r s).parts) t) (on_parts-renamed r identified identified s (identified-renamed s.parts))
      ∙ ap₂ (λ w octets. sent_along at_m w common octets (renamed_scene r (on_parts identified s))) (way-so send.dst s) (next-so send s)
      ∙ sent_along-renamed (way_to send.dst s.parts) common (next_datagram at_n send s.parts) (on_parts identified s)

  way_out-renamed : (w : WayOf N) → way_out (as_way r w) ≡ as_if r (way_out w)
  way_out-renamed Nowhere = refl
  way_out-renamed Looped = refl
  way_out-renamed (By h hop) = refl

  pub output_sent-renamed : (send : Outgoing) (p : PartsOf N) → output_sent at_m send (renamed r p) ≡ as_sent r (output_sent at_n send p)
  unfolding output_sent
  output_sent-renamed send p i = record {
    src = source_of-renamed send p i;
    out = (ap way_out (way_to-renamed r send.dst p) ∙ way_out-renamed (way_to send.dst p)) i;
  }

  sent-so : (send : Outgoing) (s : SceneOf N) → output_sent at_m send (renamed_scene r s).parts ≡ as_sent r (output_sent at_n send s.parts)
  unfolding renamed_scene
  sent-so send s = output_sent-renamed send s.parts

  -- ---- all in one

  pub output-renamed : (common : Common) (no_route : Errno) (send : Outgoing) (s : SceneOf N)
      → output at_m common no_route send (renamed_scene r s) ≡ result_map_both (as_output r) (λ e. e) (output at_n common no_route send s)
  unfolding output
  output-renamed common no_route send s =
      (λ i. unless (first_refusal (output_refusals-renamed no_route send s i)) (sent-so send s i, output_left-renamed common send s i))
      ∙ by (first_refusal (output_refusals at_n no_route send s))
    where
      by : (o : Option Errno) → unless o (as_sent r (output_sent at_n send s.parts), renamed_scene r (output_left at_n common send s))
          ≡ result_map_both (as_output r) (λ e. e) (unless o (output_sent at_n send s.parts, output_left at_n common send s))
      by None = refl
      by (Some e) = refl
