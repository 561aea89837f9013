-- What the calls answer.
use Rattle.std.specs.Prelude.{ℕ, Bool, ◌==◌, ◌||◌, is_some, List, Option, Some, None, if◌then◌else◌}
use Rattle.vn_types.specs.declared.address.Ip4.{Ip4}
use Rattle.vn_types.specs.declared.address.Mac.{Mac}
use Rattle.vn_rules.specs.declared.arp.ArpEntryOf.{ArpEntryOf}
use Rattle.vn_rules.specs.declared.parts.PartsOf.{PartsOf}
use Rattle.vn_rules.specs.Arp.{hit, is_down}
use Rattle.vn_rules.specs.Resolution.{asks, drops_oldest, after_hold, TurnOf, Ask, GivesUp, Removed}
use Rattle.vn_link.specs.declared.arp.ArpPacket.{ArpPacket}
use Rattle.vn_arp.specs.declared.answers.Resolved.{Resolved}
use Rattle.vn_arp.specs.declared.answers.Resolved.TheVariants as resolved
use Rattle.vn_arp.specs.declared.answers.Turn.{Turn}
use Rattle.vn_arp.specs.declared.answers.Turn.TheVariants as turn
use Rattle.vn_arp.specs.declared.table.TheConstants.{REQUEST}

-- the answer about a datagram, by the neighbour's hardware address, where that is known, and whether the
-- neighbour is down; where it is held, whether a request goes out and whether the oldest gave way
abbrev pub resolved_by : Option Mac → Bool → Bool → Bool → List ℕ → Resolved
resolved_by (Some mac) is_down ask dropped octets = resolved.Hit mac octets
resolved_by None is_down ask dropped octets =
    if is_down then resolved.Down octets else resolved.Held ask dropped

-- how the caller names what a timer did
abbrev pub turn_as : TurnOf → Turn
turn_as Ask = turn.Ask
turn_as (GivesUp held) = turn.WentDown held
turn_as Removed = turn.Removed

-- whether a packet asks (RFC 826, "ares_op$REQUEST")
abbrev pub is_request : ArpPacket → Bool
is_request packet = packet.op == REQUEST

module _ {N : Type 0} (same : N → N → Bool) where
  -- the answer about a datagram to an address on a half
  abbrev pub resolution : N → Ip4 → List ℕ → List (ArpEntryOf N) → Resolved
  resolution half ip octets entries =
      resolved_by (hit same half ip entries) (is_down same half ip entries) (asks same half ip entries)
      (drops_oldest same half ip entries) octets

  -- whether it is sent or refused at once
  abbrev pub is_settled : N → Ip4 → List (ArpEntryOf N) → Bool
  is_settled half ip entries = is_some (hit same half ip entries) || is_down same half ip entries

  -- it is held where it is neither sent nor refused at once
  abbrev pub after_resolution : ℕ → N → Ip4 → List ℕ → PartsOf N → PartsOf N
  after_resolution now half ip octets p =
      if is_settled half ip p.arp then p else after_hold same now half ip octets p
