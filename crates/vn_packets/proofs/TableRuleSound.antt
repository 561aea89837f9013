-- Commands on a stack's tables leave its scene sound, where nothing refuses them.
use Rattle.std.proofs.Common.{◌≡◌, ℕ, Bool, true, nat_le, List, Option, Some, None, refl}
use Rattle.std.specs.Bool.{Decides}
use Rattle.std.specs.Option.{IfSome}
use Rattle.std.proofs.lemmas.Bool.{not-false}
use Rattle.vn_types.specs.declared.address.Ip4.{Ip4}
use Rattle.vn_types.specs.declared.address.Prefix.{Prefix}
use Rattle.vn_types.specs.declared.interface.IfOf.{IfOf}
use Rattle.vn_types.specs.Refusals.{first_refusal}
use Rattle.vn_types.proofs.RefusalLaws.{none-applies}
use Rattle.vn_rules.specs.declared.parts.PartsOf.{PartsOf}
use Rattle.vn_rules.specs.AddressCommands.{with_address, inet_rule, alias_rule}
use Rattle.vn_rules.specs.Arp.{without_entries}
use Rattle.vn_rules.specs.Interfaces.{is_among}
use Rattle.vn_rules.specs.Networks.{is_network}
use Rattle.vn_rules.specs.Resolution.{after_arp_delete}
use Rattle.vn_rules.specs.RouteCommands.{add_rule, delete_rule}
use Rattle.vn_rules.specs.Routes.{has_gateway, delete_refusals}
use Rattle.vn_rules.specs.Rules.{Rule}
use Rattle.vn_rules.specs.Scenes.{SceneOf, is_sound_scene}
use Rattle.vn_rules.specs.SocketCommands.{open_rule, bind_rule, ttl_rule, close_rule}
use Rattle.vn_rules.specs.Soundness.{is_sound_parts}
use Rattle.vn_rules.specs.TableCommands.{get_rule, set_rule, arp_delete_rule}
use Rattle.vn_rules.proofs.AddressAdded.{with_address-sound}
use Rattle.vn_rules.proofs.AddressRemoval.{dropped-sound, dropped-interfaces}
use Rattle.vn_rules.proofs.ArpRemoved.{after_arp_delete-sound}
use Rattle.vn_rules.proofs.RouteAdded.{after_gateway-sound, after_delete-sound}
use Rattle.vn_rules.proofs.SocketKept.{after_open-sound, after_close-sound, after_bind-sound}
use Rattle.vn_rules.proofs.SocketQueues.{with_ttl-sound}
use Rattle.vn_rules.proofs.VariableLaws.{with_value-sound}
use Rattle.vn_packets.specs.Tables.{on_tables}
use Rattle.vn_packets.proofs.SceneSound.{Keeps, parts-sound, queues-short, scene-sound}

module _ {N : Type 0} (same : N → N → Bool) (decides : (a b : N) → Decides (same a b) (a ≡ b)) (s : SceneOf N) (sound : is_sound_scene same s ≡ true) where
  -- where nothing refuses the rule, what it leaves is sound
  abbrev pub KeepsTables : Rule (PartsOf N) → Type 0
  KeepsTables rule = first_refusal rule.refusals ≡ None → Keeps same s (on_tables s rule).otherwise.left

  on_tables-keeps : (rule : Rule (PartsOf N)) → is_sound_parts same rule.otherwise.left ≡ true → rule.otherwise.left.interfaces ≡ s.parts.interfaces → Keeps same s (on_tables s rule).otherwise.left
  on_tables-keeps rule parts ifs = record { sound = scene-sound same (record s { parts = rule.otherwise.left }) parts (queues-short same s sound); interfaces = ifs }

  own : is_sound_parts same s.parts ≡ true
  own = parts-sound same s sound

  pub get_rule-keeps : (name : List ℕ) → KeepsTables (get_rule name s.parts)
  unfolding get_rule
  get_rule-keeps name none = on_tables-keeps (get_rule name s.parts) own refl

  pub set_rule-keeps : (name : List ℕ) (value : ℕ) → KeepsTables (set_rule name value s.parts)
  unfolding set_rule
  set_rule-keeps name value none = on_tables-keeps (set_rule name value s.parts) (with_value-sound same s.parts name value own none) refl

  -- the prefix is a network's
  pub add_rule-keeps : (to : Prefix) (via : Ip4) → is_network to ≡ true → KeepsTables (add_rule to via s.parts)
  unfolding add_rule
  add_rule-keeps to via network none = on_tables-keeps (add_rule to via s.parts) (after_gateway-sound same decides s.parts own to via network none) refl

  pub delete_rule-keeps : (to : Prefix) → KeepsTables (delete_rule to s.parts)
  unfolding delete_rule
  delete_rule-keeps to none =
      on_tables-keeps (delete_rule to s.parts) (after_delete-sound same decides s.parts own to (not-false (has_gateway to s.parts.routes) (none-applies (delete_refusals to s.parts.routes) none).0)) refl

  pub arp_delete_rule-keeps : (ip : Ip4) → KeepsTables (arp_delete_rule ip s.parts)
  unfolding arp_delete_rule after_arp_delete without_entries
  arp_delete_rule-keeps ip none = on_tables-keeps (arp_delete_rule ip s.parts) (after_arp_delete-sound same decides s.parts ip own) refl

  pub open_rule-keeps : (name : List ℕ) → KeepsTables (open_rule name s.parts)
  unfolding open_rule
  open_rule-keeps name none = on_tables-keeps (open_rule name s.parts) (after_open-sound same s.parts name own none) refl

  pub bind_rule-keeps : (name : List ℕ) (ip : Option Ip4) (port : ℕ) → KeepsTables (bind_rule name ip port s.parts)
  unfolding bind_rule
  bind_rule-keeps name ip port none = on_tables-keeps (bind_rule name ip port s.parts) (after_bind-sound same s.parts name ip port own none) refl

  pub ttl_rule-keeps : (name : List ℕ) (ttl : ℕ) → KeepsTables (ttl_rule name ttl s.parts)
  unfolding ttl_rule
  ttl_rule-keeps name ttl none = on_tables-keeps (ttl_rule name ttl s.parts) (with_ttl-sound same s.parts name ttl own) refl

  pub close_rule-keeps : (name : List ℕ) → KeepsTables (close_rule name s.parts)
  unfolding close_rule
  close_rule-keeps name none = on_tables-keeps (close_rule name s.parts) (after_close-sound same s.parts name own) refl

  pub alias_rule-keeps : (on : Option (IfOf N)) (ip : Ip4) → KeepsTables (alias_rule same on ip s.parts)
  unfolding alias_rule
  alias_rule-keeps None ip none = absurd (cc)
  alias_rule-keeps (Some on) ip none = on_tables-keeps (alias_rule same (Some on) ip s.parts) (dropped-sound same on ip s.parts decides own) (dropped-interfaces same on ip s.parts)

  -- the interface stands there, and the length is at most 32
  pub inet_rule-keeps : (on : Option (IfOf N)) (ip : Ip4) (len : ℕ) → IfSome on (λ i. is_among same s.parts.interfaces i ≡ true) → nat_le len 32 ≡ true → KeepsTables (inet_rule same on ip len s.parts)
  unfolding inet_rule with_address
  inet_rule-keeps None ip len stands short none = absurd (cc)
  inet_rule-keeps (Some on) ip len stands short none =
      on_tables-keeps (inet_rule same (Some on) ip len s.parts) (with_address-sound same (record { on = on; ip = ip; len = len }) s.parts decides stands short none own) refl
