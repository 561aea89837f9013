-- A datagram for others is sent on (RFC 791; RFC 1812, section 5.2).
use Rattle.std.specs.Prelude.{ℕ, Bool, true, not, nat_le, List, [], ◌∷◌, Option, Some, None}
use Rattle.vn_types.specs.declared.address.Ip4.{Ip4}
use Rattle.vn_types.specs.declared.interface.IfOf.{IfOf}
use Rattle.vn_types.specs.Refusals.{first_refusal}
use Rattle.vn_rules.specs.declared.arp.ArpEntryOf.{ArpEntryOf}
use Rattle.vn_rules.specs.Arp.{is_down}
use Rattle.vn_rules.specs.Rules.{Common}
use Rattle.vn_rules.specs.Scenes.{LinkOf, SceneOf, link_of}
use Rattle.vn_ip4fmt.specs.Checksum.{lowered}
use Rattle.vn_packets.specs.declared.tally.Tally.TheVariants as tally
use Rattle.vn_packets.specs.Datagrams.{header_in}
use Rattle.vn_packets.specs.Drops.{lost}
use Rattle.vn_packets.specs.Errors.{Trouble, HostUnreachable, TimeExceeded, errored}
use Rattle.vn_packets.specs.Output.{WayOf, Nowhere, Looped, By, way_to, sent_along}

-- conditions in their order, each with the error that is sent, if one is
abbrev Troubles : Type 0
Troubles = List (Bool × Option Trouble)

module _ {N : Type 0} where
  -- which way it goes
  abbrev pub way_of : List ℕ → SceneOf N → WayOf N
  way_of datagram s = way_to (header_in datagram).dst s.parts

module _ {N : Type 0} (same : N → N → Bool) where
  -- of what goes out by a half with that link, to a hop
  abbrev pub half_troubles : N → LinkOf N → Ip4 → List (ArpEntryOf N) → Troubles
  half_troubles h l hop entries =
      (not l.up, Some HostUnreachable) ∷ (is_down same h hop entries, Some HostUnreachable) ∷ []

  -- of what goes that way
  abbrev pub way_troubles : WayOf N → SceneOf N → Troubles
  way_troubles Nowhere s = (true, Some HostUnreachable) ∷ []
  way_troubles Looped s = (true, None) ∷ []
  way_troubles (By h hop) s = half_troubles h (link_of same h s) hop s.parts.arp

  -- why it is not sent on. RFC 791, section 1.4: "If the time to live reaches zero before the internet datagram
  -- reaches its destination, the internet datagram is destroyed."
  abbrev pub troubles : List ℕ → WayOf N → SceneOf N → Troubles
  troubles datagram way s = (nat_le (header_in datagram).ttl 1, Some TimeExceeded) ∷ way_troubles way s

  -- by what was found: it goes that way with its time to live one less, or it is dropped, with an error or
  -- without one
  abbrev pub forwarded_by :
      Option (Option Trouble) → WayOf N → Common → IfOf N → List ℕ → Bool → SceneOf N → SceneOf N
  forwarded_by None way common via datagram is_broadcast s =
      sent_along same way common (lowered datagram) s
  forwarded_by (Some None) way common via datagram is_broadcast s = lost tally.Ip 1 s
  forwarded_by (Some (Some trouble)) way common via datagram is_broadcast s =
      errored same common via trouble datagram is_broadcast (lost tally.Ip 1 s)

  -- a whole datagram for no address of the stack, which came by an interface, in a broadcast frame or not
  unfoldable pub forwarded : Common → IfOf N → List ℕ → Bool → SceneOf N → SceneOf N
  forwarded common via datagram is_broadcast s =
      let way = way_of datagram s in
      forwarded_by (first_refusal (troubles datagram way s)) way common via datagram is_broadcast s
