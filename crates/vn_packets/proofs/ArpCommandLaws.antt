-- arp(8), -s, under other names of halves.
use Rattle.std.proofs.Common.{◌≡◌, Bool, Option, Some, None, refl, ap, ap₂, ◌∙◌}
use Rattle.std.specs.Option.{option_map}
use Rattle.vn_types.specs.declared.address.Ip4.{Ip4}
use Rattle.vn_types.specs.declared.address.Mac.{Mac}
use Rattle.vn_rules.specs.Arp.{held_for}
use Rattle.vn_rules.specs.Renamed.{renamed}
use Rattle.vn_rules.specs.Resolution.{after_arp_set, static_refusals}
use Rattle.vn_rules.specs.Routes.{gateway_half}
use Rattle.vn_rules.specs.Rules.{done}
use Rattle.vn_rules.specs.Scenes.{SceneOf, renamed_scene}
use Rattle.vn_rules.proofs.ArpLaws.{held_for-renamed}
use Rattle.vn_rules.proofs.ResolutionLaws.{after_arp_set-renamed, static_refusals-renamed}
use Rattle.vn_rules.proofs.RouteLaws.{gateway_half-renamed}
use Rattle.vn_packets.specs.ArpCommands.{released_on, arp_set_rule}
use Rattle.vn_packets.specs.ArpPackets.{sent_datagrams}
use Rattle.vn_packets.specs.Drops.{on_parts}
use Rattle.vn_packets.specs.Renamed.{as_rule}
use Rattle.vn_packets.proofs.ArpPacketLaws.{sent_datagrams-renamed}
use Rattle.vn_packets.proofs.DropLaws.{on_parts-renamed}

module _ {N M : Type 0} (r : N → M) (at_n : N → N → Bool) (at_m : M → M → Bool) (faithful : (a b : N) → at_m (r a) (r b) ≡ at_n a b) where
  held-so : (half : N) (ip : Ip4) (s : SceneOf N) → held_for at_m (r half) ip (renamed_scene r s).parts.arp ≡ held_for at_n half ip s.parts.arp
  unfolding renamed_scene renamed
  held-so half ip s = held_for-renamed r at_n at_m faithful half ip s.parts.arp

  released_on-renamed : (o : Option N) (ip : Ip4) (mac : Mac) (before s : SceneOf N)
      → released_on at_m (option_map r o) ip mac (renamed_scene r before) (renamed_scene r s) ≡ renamed_scene r (released_on at_n o ip mac before s)
  released_on-renamed None ip mac before s = refl
  released_on-renamed (Some half) ip mac before s =
      ap (λ held. sent_datagrams at_m (r half) mac held (renamed_scene r s)) (held-so half ip before)
      ∙ sent_datagrams-renamed r at_n at_m faithful half mac (held_for at_n half ip before.parts.arp) s

  half-so : (ip : Ip4) (s : SceneOf N) → gateway_half ip (renamed_scene r s).parts.routes ≡ option_map r (gateway_half ip s.parts.routes)
  unfolding renamed_scene renamed
  half-so ip s = gateway_half-renamed r ip s.parts.routes

  refusals-so : (ip : Ip4) (mac : Mac) (s : SceneOf N) → static_refusals ip mac (renamed_scene r s).parts ≡ static_refusals ip mac s.parts
  unfolding renamed_scene
  refusals-so ip mac s = static_refusals-renamed r ip mac s.parts

  pub arp_set_rule-renamed : (ip : Ip4) (mac : Mac) (s : SceneOf N) → arp_set_rule at_m ip mac (renamed_scene r s) ≡ as_rule r (arp_set_rule at_n ip mac s)
  unfolding arp_set_rule
  arp_set_rule-renamed ip mac s =
      let set : SceneOf N = on_parts (after_arp_set at_n ip mac) s in
      let left =
      ap₂ (λ half t. released_on at_m half ip mac (renamed_scene r s) t) (half-so ip s)
      (on_parts-renamed r (after_arp_set at_n ip mac) (after_arp_set at_m ip mac) s (after_arp_set-renamed r at_n at_m faithful ip mac s.parts))
      ∙ released_on-renamed (gateway_half ip s.parts.routes) ip mac s set in
      λ i. record { refusals = refusals-so ip mac s i; otherwise = done (left i) }
