-- Forwarding under other names of halves.
use Rattle.std.proofs.Common.{◌≡◌, ℕ, Bool, not, nat_le, List, [], ◌∷◌, Option, Some, None, refl, ap, ◌∙◌}
use Rattle.vn_types.specs.declared.address.Ip4.{Ip4}
use Rattle.vn_types.specs.declared.interface.IfOf.{IfOf}
use Rattle.vn_types.specs.Interfaces.{as_if}
use Rattle.vn_types.specs.Refusals.{first_refusal}
use Rattle.vn_rules.specs.Renamed.{renamed}
use Rattle.vn_rules.specs.Rules.{Common}
use Rattle.vn_rules.specs.Scenes.{LinkOf, SceneOf, link_of, as_link, renamed_scene}
use Rattle.vn_rules.proofs.ArpLaws.{is_down-renamed}
use Rattle.vn_rules.proofs.SceneLaws.{link_of-renamed}
use Rattle.vn_ip4fmt.specs.Checksum.{lowered}
use Rattle.vn_packets.specs.declared.tally.Tally.TheVariants as tally
use Rattle.vn_packets.specs.Datagrams.{header_in}
use Rattle.vn_packets.specs.Drops.{lost}
use Rattle.vn_packets.specs.Errors.{Trouble, HostUnreachable, TimeExceeded, errored}
use Rattle.vn_packets.specs.Forwarding.{half_troubles, way_troubles, troubles, forwarded_by, forwarded}
use Rattle.vn_packets.specs.Output.{WayOf, Nowhere, Looped, By, way_to}
use Rattle.vn_packets.specs.Renamed.{as_way}
use Rattle.vn_packets.proofs.DropLaws.{lost-renamed}
use Rattle.vn_packets.proofs.OutputLaws.{way-so, sent_along-renamed}
use Rattle.vn_packets.proofs.ErrorLaws.{errored-renamed}

module _ {N M : Type 0} (r : N → M) (at_n : N → N → Bool) (at_m : M → M → Bool) (faithful : (a b : N) → at_m (r a) (r b) ≡ at_n a b) where
  half_troubles-renamed : (h : N) (l : LinkOf N) (hop : Ip4) (s : SceneOf N) → half_troubles at_m (r h) (as_link r l) hop (renamed_scene r s).parts.arp ≡ half_troubles at_n h l hop s.parts.arp
  unfolding renamed_scene renamed
  half_troubles-renamed h l hop s =
      ap (λ down. (not l.up, Some HostUnreachable) ∷ (down, Some HostUnreachable) ∷ []) (is_down-renamed r at_n at_m faithful h hop s.parts.arp)

  way_troubles-renamed : (w : WayOf N) (s : SceneOf N) → way_troubles at_m (as_way r w) (renamed_scene r s) ≡ way_troubles at_n w s
  way_troubles-renamed Nowhere s = refl
  way_troubles-renamed Looped s = refl
  way_troubles-renamed (By h hop) s =
      ap (λ l. half_troubles at_m (r h) l hop (renamed_scene r s).parts.arp) (link_of-renamed r at_n at_m faithful h s) ∙ half_troubles-renamed h (link_of at_n h s) hop s

  forwarded_by-renamed : (found : Option (Option Trouble)) (w : WayOf N) (common : Common) (via : IfOf N) (datagram : List ℕ) (is_broadcast : Bool) (s : SceneOf N)
      → forwarded_by at_m found (as_way r w) common (as_if r via) datagram is_broadcast (renamed_scene r s) ≡ renamed_scene r (forwarded_by at_n found w common via datagram is_broadcast s)
  forwarded_by-renamed None w common via datagram is_broadcast s = sent_along-renamed r at_n at_m faithful w common (lowered datagram) s
  forwarded_by-renamed (Some None) w common via datagram is_broadcast s = lost-renamed r tally.Ip 1 s
  forwarded_by-renamed (Some (Some trouble)) w common via datagram is_broadcast s =
      ap (errored at_m common (as_if r via) trouble datagram is_broadcast) (lost-renamed r tally.Ip 1 s)
      ∙ errored-renamed r at_n at_m faithful common via trouble datagram is_broadcast (lost tally.Ip 1 s)

  by_way-renamed : (w : WayOf N) (common : Common) (via : IfOf N) (datagram : List ℕ) (is_broadcast : Bool) (s : SceneOf N)
      → forwarded_by at_m (first_refusal (troubles at_m datagram (as_way r w) (renamed_scene r s))) (as_way r w) common (as_if r via) datagram is_broadcast (renamed_scene r s)
      ≡ renamed_scene r (forwarded_by at_n (first_refusal (troubles at_n datagram w s)) w common via datagram is_broadcast s)
  by_way-renamed w common via datagram is_broadcast s =
      ap (λ more. forwarded_by at_m (first_refusal ((nat_le (header_in datagram).ttl 1, Some TimeExceeded) ∷ more)) (as_way r w) common (as_if r via) datagram is_broadcast (renamed_scene r s)) (way_troubles-renamed w s)
      ∙ forwarded_by-renamed (first_refusal (troubles at_n datagram w s)) w common via datagram is_broadcast s

  pub forwarded-renamed : (common : Common) (via : IfOf N) (datagram : List ℕ) (is_broadcast : Bool) (s : SceneOf N)
      → forwarded at_m common (as_if r via) datagram is_broadcast (renamed_scene r s) ≡ renamed_scene r (forwarded at_n common via datagram is_broadcast s)
  unfolding forwarded
  forwarded-renamed common via datagram is_broadcast s =
      ap (λ w. forwarded_by at_m (first_refusal (troubles at_m datagram w (renamed_scene r s))) w common (as_if r via) datagram is_broadcast (renamed_scene r s)) (way-so r at_n at_m faithful (header_in datagram).dst s)
      ∙ by_way-renamed (way_to (header_in datagram).dst s.parts) common via datagram is_broadcast s
