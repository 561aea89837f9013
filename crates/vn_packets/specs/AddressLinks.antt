-- ifconfig(8), `inet` and `up`: addresses of a half that is up are announced.
use Rattle.std.specs.Prelude.{ℕ, Bool, List, [], ◌∷◌, Option, Some, None, filter, if◌then◌else◌}
use Rattle.vn_types.specs.declared.address.Ip4.{Ip4}
use Rattle.vn_types.specs.declared.interface.IfOf.{IfOf}
use Rattle.vn_types.specs.declared.interface.IfOf.TheVariants.{Lo0, Half}
use Rattle.vn_rules.specs.declared.address.AddrOf.{AddrOf}
use Rattle.vn_rules.specs.AddressCommands as tables
use Rattle.vn_rules.specs.Addresses.{is_on}
use Rattle.vn_rules.specs.LinkCommands as links
use Rattle.vn_rules.specs.Rules.{Rule}
use Rattle.vn_rules.specs.Scenes.{SceneOf, link_of}
use Rattle.vn_packets.specs.ArpPackets.{announced}
use Rattle.vn_packets.specs.Tables.{and_next, on_tables}

module _ {N : Type 0} (same : N → N → Bool) where
  -- an address of a half is announced where the half is up
  abbrev pub announced_up : N → Ip4 → SceneOf N → SceneOf N
  announced_up h ip s = if (link_of same h s).up then announced same h ip s else s

  -- an address of an interface is announced, where the interface is a half that is up
  unfoldable pub announced_on : Option (IfOf N) → Ip4 → SceneOf N → SceneOf N
  announced_on None ip s = s
  announced_on (Some Lo0) ip s = s
  announced_on (Some (Half h)) ip s = announced_up h ip s

  -- inet: an interface gets an address, which is announced
  unfoldable pub inet_rule : Option (IfOf N) → Ip4 → ℕ → SceneOf N → Rule (SceneOf N)
  inet_rule on ip len s =
      and_next (announced_on on ip) (on_tables s (tables.inet_rule same on ip len s.parts))

  -- addresses of a half are announced, one after another
  unfoldable pub all_announced : N → List (AddrOf N) → SceneOf N → SceneOf N
  all_announced h [] s = s
  all_announced h (a ∷ addresses) s = all_announced h addresses (announced same h a.ip s)

  -- the addresses of a half that was down are announced in their order
  abbrev pub come_up : N → Bool → SceneOf N → SceneOf N
  come_up h was_up s =
      if was_up then s else all_announced h (filter (is_on same (Half h)) s.parts.addresses) s

  -- an interface has come up; before, its half was up or down
  unfoldable pub come_up_on : Option (IfOf N) → SceneOf N → SceneOf N → SceneOf N
  come_up_on None before s = s
  come_up_on (Some Lo0) before s = s
  come_up_on (Some (Half h)) before s = come_up h (link_of same h before).up s

  -- up: where the half was down, its addresses are announced
  unfoldable pub up_rule : Option (IfOf N) → SceneOf N → Rule (SceneOf N)
  up_rule on s = and_next (come_up_on on s) (links.up_rule same on s)
