-- Addresses that are announced leave a scene sound.
use Rattle.std.proofs.Common.{◌≡◌, ℕ, Bool, true, nat_le, List, [], ◌∷◌, Option, Some, None, ap}
use Rattle.std.specs.Prelude.{filter}
use Rattle.std.specs.Bool.{Decides}
use Rattle.std.specs.Option.{IfSome}
use Rattle.vn_types.specs.declared.address.Ip4.{Ip4}
use Rattle.vn_types.specs.declared.interface.IfOf.{IfOf}
use Rattle.vn_types.specs.declared.interface.IfOf.TheVariants.{Lo0, Half}
use Rattle.vn_types.specs.Refusals.{first_refusal}
use Rattle.vn_rules.specs.declared.address.AddrOf.{AddrOf}
use Rattle.vn_rules.specs.declared.parts.PartsOf.{PartsOf}
use Rattle.vn_rules.specs.AddressCommands as tables
use Rattle.vn_rules.specs.Addresses.{is_on}
use Rattle.vn_rules.specs.Interfaces.{is_among}
use Rattle.vn_rules.specs.LinkCommands.{set_up}
use Rattle.vn_rules.specs.Scenes.{SceneOf, link_of, is_sound_scene}
use Rattle.vn_rules.proofs.LinkLaws.{set_up-parts, set_up-sound}
use Rattle.vn_packets.specs.AddressLinks.{announced_on, inet_rule, all_announced, come_up_on, up_rule}
use Rattle.vn_packets.specs.ArpPackets.{announced}
use Rattle.vn_packets.specs.Tables.{on_tables}
use Rattle.vn_packets.proofs.ArpPacketSound.{announced-keeps}
use Rattle.vn_packets.proofs.SceneSound.{Keeps, keeps-refl, keeps-then, keeps-either}
use Rattle.vn_packets.proofs.TableRuleSound as table_rules

module _ {N : Type 0} (same : N → N → Bool) where
  announced_on-keeps : (on : Option (IfOf N)) (ip : Ip4) (s : SceneOf N) → is_sound_scene same s ≡ true → Keeps same s (announced_on same on ip s)
  unfolding announced_on
  announced_on-keeps None ip s sound = keeps-refl same s sound
  announced_on-keeps (Some Lo0) ip s sound = keeps-refl same s sound
  announced_on-keeps (Some (Half h)) ip s sound = keeps-either same s (announced same h ip s) s (link_of same h s).up (announced-keeps same h ip s sound) (keeps-refl same s sound)

  all_announced-keeps : (h : N) (addresses : List (AddrOf N)) (s : SceneOf N) → is_sound_scene same s ≡ true → Keeps same s (all_announced same h addresses s)
  unfolding all_announced
  all_announced-keeps h [] s sound = keeps-refl same s sound
  all_announced-keeps h (a ∷ addresses) s sound =
      keeps-then same s (announced same h a.ip s) (all_announced same h addresses (announced same h a.ip s)) (announced-keeps same h a.ip s sound) (all_announced-keeps h addresses (announced same h a.ip s))

  come_up_on-keeps : (on : Option (IfOf N)) (before s : SceneOf N) → is_sound_scene same s ≡ true → Keeps same s (come_up_on same on before s)
  unfolding come_up_on
  come_up_on-keeps None before s sound = keeps-refl same s sound
  come_up_on-keeps (Some Lo0) before s sound = keeps-refl same s sound
  come_up_on-keeps (Some (Half h)) before s sound =
      let addresses : List (AddrOf N) = filter (is_on same (Half h)) s.parts.addresses in
      keeps-either same s s (all_announced same h addresses s) (link_of same h before).up (keeps-refl same s sound) (all_announced-keeps h addresses s sound)

  pub up_rule-keeps : (on : Option (IfOf N)) (s : SceneOf N) → is_sound_scene same s ≡ true → Keeps same s (up_rule same on s).otherwise.left
  unfolding up_rule
  up_rule-keeps on s sound =
      let risen : SceneOf N = set_up same true on s in
      keeps-then same s risen (come_up_on same on s risen)
      (record { sound = set_up-sound same true on s sound; interfaces = ap (λ (p : PartsOf N). p.interfaces) (set_up-parts same true on s) })
      (come_up_on-keeps on s risen)

  module _ (decides : (a b : N) → Decides (same a b) (a ≡ b)) where
    -- the interface stands there, and the length is at most 32
    pub inet_rule-keeps : (on : Option (IfOf N)) (ip : Ip4) (len : ℕ) (s : SceneOf N) → is_sound_scene same s ≡ true → IfSome on (λ i. is_among same s.parts.interfaces i ≡ true) → nat_le len 32 ≡ true
        → first_refusal (inet_rule same on ip len s).refusals ≡ None → Keeps same s (inet_rule same on ip len s).otherwise.left
    unfolding inet_rule
    inet_rule-keeps on ip len s sound stands short none =
        let given : SceneOf N = (on_tables s (tables.inet_rule same on ip len s.parts)).otherwise.left in
        keeps-then same s given (announced_on same on ip given) (table_rules.inet_rule-keeps same decides s sound on ip len stands short none) (announced_on-keeps on ip given)
