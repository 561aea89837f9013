-- The commands near a stack leave it sound.
use Rattle.std.proofs.Common.{◌≡◌, Bool, true, false, cond, List, [], ◌∷◌, Option, Some, None, refl, sym, ap, ◌∙◌}
use Rattle.std.specs.List.{find, list_any}
use Rattle.std.specs.Option.{IfSome}
use Rattle.std.proofs.lemmas.Bool.{and_parts, or_left, or_right}
use Rattle.vn_types.specs.declared.half.Half.{Half}
use Rattle.vn_types.specs.declared.interface.IfName.{IfName}
use Rattle.vn_types.specs.declared.interface.IfOf.TheVariants.{Lo0}
use Rattle.vn_types.specs.Refusals.{first_refusal}
use Rattle.vn_rules.specs.declared.parts.PartsOf.{PartsOf}
use Rattle.vn_rules.specs.Interfaces.{is_among}
use Rattle.vn_rules.specs.Named.{interface_named}
use Rattle.vn_rules.specs.Rules.{Common}
use Rattle.vn_rules.specs.Scenes.{SceneOf, is_sound_scene}
use Rattle.vn_rules.proofs.LinkLaws.{set_up-parts, set_up-sound}
use Rattle.vn_packets.specs.Statistics.{stat_rule}
use Rattle.vn_packets.proofs.AddressLinkSound.{inet_rule-keeps, up_rule-keeps}
use Rattle.vn_packets.proofs.ArpCommandSound.{arp_set_rule-keeps}
use Rattle.vn_packets.proofs.PingCommandSound.{ping_rule-keeps}
use Rattle.vn_packets.proofs.SceneSound.{Keeps, keeps-refl}
use Rattle.vn_packets.proofs.TableRuleSound.{add_rule-keeps, alias_rule-keeps, arp_delete_rule-keeps, bind_rule-keeps, close_rule-keeps, delete_rule-keeps, get_rule-keeps, open_rule-keeps, set_rule-keeps, ttl_rule-keeps}
use Rattle.vn_packets.proofs.UdpCommandSound.{connect_rule-keeps, recv_rule-keeps, send_rule-keeps}
use Rattle.vn_cells.specs.declared.command.Command.{Command}
use Rattle.vn_cells.specs.declared.command.Command.TheVariants as command
use Rattle.vn_cells.specs.world.Names.{Path, If, half_eq, half_name, if_eq}
use Rattle.vn_cells.specs.machine.Commands.{near_rule, named_in, payload_octets}
use Rattle.vn_cells.specs.machine.Events.{is_valid_command}
use Rattle.vn_cells.specs.machine.Local.{near_answer}
use Rattle.vn_laws.proofs.edits.Names.{half_eq-Decides}
use Rattle.vn_laws.proofs.local.Acted.{sound_scene, sound_after}
use Rattle.vn_laws.proofs.local.Listed.{lists_in}
use Rattle.vn_laws.proofs.pairs.Listed.{if_eq-refl}
use Rattle.vn_laws.proofs.rule.Answers.{answered}

-- the scene that is left is sound, with the interfaces that stood there
abbrev pub SoundFrom : SceneOf Half → SceneOf Half → Type 0
SoundFrom before after =
    is_sound_scene half_eq (record after { parts = record after.parts { interfaces = before.parts.interfaces } }) ≡ true

pub sound_from : {s t : SceneOf Half} → Keeps half_eq s t → SoundFrom s t
sound_from {s} {t} kept = ap (λ ifs. is_sound_scene half_eq (record t { parts = record t.parts { interfaces = ifs } })) (sym kept.interfaces) ∙ kept.sound

-- an interface that is found is one of them
found-among : (test : If → Bool) (ifs : List If) → IfSome (find test ifs) (λ on. list_any (if_eq on) ifs ≡ true)
found-among test [] = tt
found-among test (k ∷ ifs) = by (test k) (find test ifs) (found-among test ifs)
  where
    more : (o : Option If) → IfSome o (λ on. list_any (if_eq on) ifs ≡ true) → IfSome o (λ on. list_any (if_eq on) (k ∷ ifs) ≡ true)
    more None there = tt
    more (Some on) there = or_right (if_eq on k) _ there

    by : (b : Bool) (o : Option If) → IfSome o (λ on. list_any (if_eq on) ifs ≡ true) → IfSome (cond b (Some k) o) (λ on. list_any (if_eq on) (k ∷ ifs) ≡ true)
    by true o there = or_left _ _ (if_eq-refl k)
    by false o there = more o there

named-among : (name : IfName) (s : SceneOf Half) → IfSome (named_in half_name name s) (λ on. is_among half_eq s.parts.interfaces on ≡ true)
unfolding interface_named
named-among name s = found-among _ s.parts.interfaces

module _ (common : Common) (issuer : Path) (s : SceneOf Half) (sound : is_sound_scene half_eq s ≡ true) (lo0 : is_among half_eq s.parts.interfaces Lo0 ≡ true) where
  near-keeps : (command : Command) → is_valid_command issuer command ≡ true → first_refusal (near_rule half_eq half_name common command s).refusals ≡ None
      → Keeps half_eq s (near_rule half_eq half_name common command s).otherwise.left
  unfolding near_rule is_valid_command stat_rule
  near-keeps (command.Inet name ip len) valid none =
      inet_rule-keeps half_eq half_eq-Decides (named_in half_name name s) ip len s sound (named-among name s) (and_parts _ _ valid).1 none
  near-keeps (command.InetRemove name ip) valid none = alias_rule-keeps half_eq half_eq-Decides s sound (named_in half_name name s) ip none
  near-keeps (command.Up name) valid none = up_rule-keeps half_eq (named_in half_name name s) s sound
  near-keeps (command.Down name) valid none =
      let on = named_in half_name name s in
      record { sound = set_up-sound half_eq false on s sound; interfaces = ap (λ (p : PartsOf Half). p.interfaces) (set_up-parts half_eq false on s) }
  near-keeps (command.RouteAdd to via) valid none =
      add_rule-keeps half_eq half_eq-Decides s sound to via (and_parts _ _ (and_parts _ _ valid).0).1 none
  near-keeps (command.RouteDelete to) valid none = delete_rule-keeps half_eq half_eq-Decides s sound to none
  near-keeps (command.ArpSet ip mac) valid none = arp_set_rule-keeps half_eq half_eq-Decides ip mac s sound
  near-keeps (command.ArpDelete ip) valid none = arp_delete_rule-keeps half_eq half_eq-Decides s sound ip none
  near-keeps (command.SysctlGet name) valid none = get_rule-keeps half_eq half_eq-Decides s sound name none
  near-keeps (command.SysctlSet name value) valid none = set_rule-keeps half_eq half_eq-Decides s sound name value none
  near-keeps (command.Ping ttl ip) valid none = ping_rule-keeps half_eq half_eq-Decides common ttl ip s sound lo0 none
  near-keeps (command.UdpOpen sock) valid none = open_rule-keeps half_eq half_eq-Decides s sound sock none
  near-keeps (command.UdpBind sock ip port) valid none = bind_rule-keeps half_eq half_eq-Decides s sound sock ip port none
  near-keeps (command.UdpConnect sock ip port) valid none = connect_rule-keeps half_eq half_eq-Decides s sound sock ip port none
  near-keeps (command.UdpSend sock body to) valid none = send_rule-keeps half_eq half_eq-Decides s sound common sock (payload_octets body) to none
  near-keeps (command.UdpRecv sock) valid none = recv_rule-keeps half_eq s sound sock none
  near-keeps (command.UdpTtl sock ttl) valid none = ttl_rule-keeps half_eq half_eq-Decides s sound sock ttl none
  near-keeps (command.UdpClose sock) valid none = close_rule-keeps half_eq half_eq-Decides s sound sock none
  near-keeps _ valid none = keeps-refl half_eq s sound

pub near-tables : (common : Common) (issuer : Path) (command : Command) → is_valid_command issuer command ≡ true → (o : Option (SceneOf Half)) → lists_in Lo0 o ≡ true → sound_scene o ≡ true
    → sound_after o (near_answer common command o).left ≡ true
unfolding near_answer
near-tables common issuer command valid None lo0 e = refl
near-tables common issuer command valid (Some s) lo0 e =
    answered (SoundFrom s) (near_rule half_eq half_name common command s) e (λ none. sound_from (near-keeps common issuer s e lo0 command valid none))
