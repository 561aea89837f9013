-- arp(8), -s, leaves a scene sound.
use Rattle.std.proofs.Common.{◌≡◌, Bool, true, Option, Some, None, refl}
use Rattle.std.specs.Bool.{Decides}
use Rattle.std.specs.Option.{option_map_or}
use Rattle.vn_types.specs.declared.address.Ip4.{Ip4}
use Rattle.vn_types.specs.declared.address.Mac.{Mac}
use Rattle.vn_rules.specs.declared.parts.PartsOf.{PartsOf}
use Rattle.vn_rules.specs.Arp.{held_for}
use Rattle.vn_rules.specs.Resolution.{after_static, after_arp_set}
use Rattle.vn_rules.specs.Routes.{gateway_half}
use Rattle.vn_rules.specs.Scenes.{SceneOf, is_sound_scene}
use Rattle.vn_rules.proofs.ArpRemoved.{after_arp_set-sound}
use Rattle.vn_packets.specs.ArpCommands.{released_on, arp_set_rule}
use Rattle.vn_packets.specs.Drops.{on_parts}
use Rattle.vn_packets.proofs.ArpPacketSound.{sent_datagrams-keeps}
use Rattle.vn_packets.proofs.SceneSound.{Keeps, keeps-refl, keeps-then, parts-sound, on_parts-keeps}

module _ {N : Type 0} (same : N → N → Bool) (decides : (a b : N) → Decides (same a b) (a ≡ b)) where
  set-ifs : (ip : Ip4) (mac : Mac) (p : PartsOf N) → (after_arp_set same ip mac p).interfaces ≡ p.interfaces
  unfolding after_arp_set after_static
  set-ifs ip mac p = by (gateway_half ip p.routes)
    where
      by : (o : Option N) → (option_map_or (λ half. after_static same half ip mac p) o p).interfaces ≡ p.interfaces
      by None = refl
      by (Some half) = refl

  released_on-keeps : (o : Option N) (ip : Ip4) (mac : Mac) (before s : SceneOf N) → is_sound_scene same s ≡ true → Keeps same s (released_on same o ip mac before s)
  released_on-keeps None ip mac before s sound = keeps-refl same s sound
  released_on-keeps (Some half) ip mac before s sound = sent_datagrams-keeps same half mac (held_for same half ip before.parts.arp) s sound

  pub arp_set_rule-keeps : (ip : Ip4) (mac : Mac) (s : SceneOf N) → is_sound_scene same s ≡ true → Keeps same s (arp_set_rule same ip mac s).otherwise.left
  unfolding arp_set_rule
  arp_set_rule-keeps ip mac s sound =
      let set : SceneOf N = on_parts (after_arp_set same ip mac) s in
      keeps-then same s set (released_on same (gateway_half ip s.parts.routes) ip mac s set)
      (on_parts-keeps same (after_arp_set same ip mac) s (after_arp_set-sound same decides s.parts ip mac (parts-sound same s sound)) (set-ifs ip mac s.parts) sound)
      (released_on-keeps (gateway_half ip s.parts.routes) ip mac s set)
