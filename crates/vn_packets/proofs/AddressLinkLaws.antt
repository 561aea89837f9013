-- Addresses that are announced, under other names of halves.
use Rattle.std.proofs.Common.{◌≡◌, ℕ, Bool, true, List, [], ◌∷◌, map, Option, Some, None, refl, ap, ◌∙◌}
use Rattle.std.specs.Prelude.{filter}
use Rattle.std.specs.Option.{is_none, option_map}
use Rattle.vn_types.specs.declared.address.Ip4.{Ip4}
use Rattle.vn_types.specs.declared.errno.Errno.TheVariants as errno
use Rattle.vn_types.specs.declared.interface.IfOf.{IfOf}
use Rattle.vn_types.specs.declared.interface.IfOf.TheVariants.{Lo0, Half}
use Rattle.vn_types.specs.Interfaces.{as_if}
use Rattle.vn_types.proofs.ListMaps.{filter_map_same}
use Rattle.vn_rules.specs.declared.address.AddrOf.{AddrOf}
use Rattle.vn_rules.specs.AddressCommands as tables
use Rattle.vn_rules.specs.Addresses.{is_on}
use Rattle.vn_rules.specs.LinkCommands as links
use Rattle.vn_rules.specs.Renamed.{as_addr, renamed}
use Rattle.vn_rules.specs.Rules.{Rule, done}
use Rattle.vn_rules.specs.Scenes.{LinkOf, SceneOf, link_of, renamed_scene}
use Rattle.vn_rules.proofs.AddressLaws.{is_on-renamed}
use Rattle.vn_rules.proofs.LinkLaws.{set_up-renamed}
use Rattle.vn_rules.proofs.SceneLaws.{link_of-renamed}
use Rattle.vn_packets.specs.AddressLinks.{announced_on, inet_rule, all_announced, come_up_on, up_rule}
use Rattle.vn_packets.specs.ArpPackets.{announced}
use Rattle.vn_packets.specs.Renamed.{as_rule}
use Rattle.vn_packets.specs.Tables.{and_next, on_tables}
use Rattle.vn_packets.proofs.ArpPacketLaws.{announced-renamed}
use Rattle.vn_packets.proofs.DropLaws.{choice}
use Rattle.vn_packets.proofs.TableRuleLaws.{inet_rule-over, on_tables-renamed}

module _ {N M : Type 0} (r : N → M) where
  -- what is done next to a rule goes through a renaming where both do
  pub and_next-renamed : (f : SceneOf N → SceneOf N) (g : SceneOf M → SceneOf M) → ((s : SceneOf N) → g (renamed_scene r s) ≡ renamed_scene r (f s))
      → (rule : Rule (SceneOf N)) (other : Rule (SceneOf M)) → other ≡ as_rule r rule → and_next g other ≡ as_rule r (and_next f rule)
  and_next-renamed f g next rule other same =
      ap (and_next g) same
      ∙ (λ i. record { refusals = rule.refusals; otherwise = record { left = next rule.otherwise.left i; outcome = rule.otherwise.outcome } })

  none-so : (on : Option (IfOf N)) → is_none (option_map (as_if r) on) ≡ is_none on
  none-so None = refl
  none-so (Some on) = refl

module _ {N M : Type 0} (r : N → M) (at_n : N → N → Bool) (at_m : M → M → Bool) (faithful : (a b : N) → at_m (r a) (r b) ≡ at_n a b) where
  up-so : (h : N) (s : SceneOf N) → (link_of at_m (r h) (renamed_scene r s)).up ≡ (link_of at_n h s).up
  up-so h s = ap (λ (l : LinkOf M). l.up) (link_of-renamed r at_n at_m faithful h s)

  announced_on-renamed : (on : Option (IfOf N)) (ip : Ip4) (s : SceneOf N) → announced_on at_m (option_map (as_if r) on) ip (renamed_scene r s) ≡ renamed_scene r (announced_on at_n on ip s)
  unfolding announced_on
  announced_on-renamed None ip s = refl
  announced_on-renamed (Some Lo0) ip s = refl
  announced_on-renamed (Some (Half h)) ip s = choice (renamed_scene r) (announced at_n h ip s) s (up-so h s) (announced-renamed r at_n at_m faithful h ip s) refl

  inet-so : (on : Option (IfOf N)) (ip : Ip4) (len : ℕ) (s : SceneOf N)
      → on_tables (renamed_scene r s) (tables.inet_rule at_m (option_map (as_if r) on) ip len (renamed_scene r s).parts) ≡ as_rule r (on_tables s (tables.inet_rule at_n on ip len s.parts))
  unfolding renamed_scene
  inet-so on ip len s = on_tables-renamed r s (tables.inet_rule at_n on ip len s.parts) (tables.inet_rule at_m (option_map (as_if r) on) ip len (renamed r s.parts)) (inet_rule-over r at_n at_m faithful on ip len s.parts)

  pub inet_rule-renamed : (on : Option (IfOf N)) (ip : Ip4) (len : ℕ) (s : SceneOf N) → inet_rule at_m (option_map (as_if r) on) ip len (renamed_scene r s) ≡ as_rule r (inet_rule at_n on ip len s)
  unfolding inet_rule
  inet_rule-renamed on ip len s =
      and_next-renamed r (announced_on at_n on ip) (announced_on at_m (option_map (as_if r) on) ip) (announced_on-renamed on ip)
      (on_tables s (tables.inet_rule at_n on ip len s.parts)) (on_tables (renamed_scene r s) (tables.inet_rule at_m (option_map (as_if r) on) ip len (renamed_scene r s).parts)) (inet-so on ip len s)

  all_announced-renamed : (h : N) (addresses : List (AddrOf N)) (s : SceneOf N) → all_announced at_m (r h) (map (as_addr r) addresses) (renamed_scene r s) ≡ renamed_scene r (all_announced at_n h addresses s)
  unfolding all_announced
  all_announced-renamed h [] s = refl
  all_announced-renamed h (a ∷ addresses) s =
      ap (all_announced at_m (r h) (map (as_addr r) addresses)) (announced-renamed r at_n at_m faithful h a.ip s) ∙ all_announced-renamed h addresses (announced at_n h a.ip s)

  addresses-so : (h : N) (s : SceneOf N) → filter (is_on at_m (Half (r h))) (renamed_scene r s).parts.addresses ≡ map (as_addr r) (filter (is_on at_n (Half h)) s.parts.addresses)
  unfolding renamed_scene renamed
  addresses-so h s = filter_map_same (as_addr r) (is_on at_n (Half h)) (is_on at_m (Half (r h))) (is_on-renamed r at_n at_m faithful (Half h)) s.parts.addresses

  come_up_on-renamed : (on : Option (IfOf N)) (before s : SceneOf N) → come_up_on at_m (option_map (as_if r) on) (renamed_scene r before) (renamed_scene r s) ≡ renamed_scene r (come_up_on at_n on before s)
  unfolding come_up_on
  come_up_on-renamed None before s = refl
  come_up_on-renamed (Some Lo0) before s = refl
  come_up_on-renamed (Some (Half h)) before s =
      choice (renamed_scene r) s (all_announced at_n h (filter (is_on at_n (Half h)) s.parts.addresses) s) (up-so h before) refl
      (ap (λ addresses. all_announced at_m (r h) addresses (renamed_scene r s)) (addresses-so h s) ∙ all_announced-renamed h (filter (is_on at_n (Half h)) s.parts.addresses) s)

  pub up_rule-renamed : (on : Option (IfOf N)) (s : SceneOf N) → up_rule at_m (option_map (as_if r) on) (renamed_scene r s) ≡ as_rule r (up_rule at_n on s)
  unfolding up_rule
  up_rule-renamed on s =
      and_next-renamed r (come_up_on at_n on s) (come_up_on at_m (option_map (as_if r) on) (renamed_scene r s)) (come_up_on-renamed on s)
      (links.up_rule at_n on s) (links.up_rule at_m (option_map (as_if r) on) (renamed_scene r s))
      (λ i. record { refusals = (none-so r on i, errno.NxIo) ∷ []; otherwise = done (set_up-renamed r at_n at_m faithful true on s i) })
