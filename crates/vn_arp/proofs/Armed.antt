-- How many timers were armed, where a rule of ARP was followed.
use Rattle.std.proofs.Common.{ℕ, ◌+◌, ◌≤◌, Bool, true, false, cond, ◌||◌, List, Option, Some, None, sym, ap, subst, arith}
use Rattle.std.specs.Option.{option_map_or}
use Rattle.vn_types.specs.declared.address.Ip4.{Ip4}
use Rattle.vn_types.specs.declared.address.Mac.{Mac}
use Rattle.vn_types.specs.declared.interface.HalfId.{HalfId}
use Rattle.vn_types.specs.Interfaces.{half_id_eq}
use Rattle.vn_rules.specs.declared.parts.PartsOf.{PartsOf}
use Rattle.vn_rules.specs.declared.arp.ArpEntryOf.{ArpEntryOf}
use Rattle.vn_rules.specs.declared.timer.TimersOf.{TimersOf}
use Rattle.vn_rules.specs.Arp.{entry_of, without_entries}
use Rattle.vn_rules.specs.Construction.{bare_parts}
use Rattle.vn_rules.specs.Resolution.{TurnOf, Ask, GivesUp, Removed, turn_of, asks, merges, adds, turned, after_hold, after_input, after_turn}
use Rattle.vn_arp.specs.Answers.{after_resolution, is_settled}
use Rattle.vn_arp.specs.Kept.{Follows, entries_of}
use Rattle.vn_arp.proofs.Edits.{Kept}

abbrev Parts : Type 0
Parts = PartsOf HalfId

-- no more than so many, in either case
armed_within : (n : ℕ) (b : Bool) (p q : Parts) → p.timers.armed ≤ n → q.timers.armed ≤ n → (cond b p q).timers.armed ≤ n
armed_within n true p q below more = below
armed_within n false p q below more = more

module _ (rows new : List Kept) (t after : TimersOf HalfId) (now : ℕ) (half : HalfId) (ip : Ip4) where
  -- in a stack of which nothing else is known
  abbrev before : Parts
  before = record bare_parts { arp = entries_of rows; timers = t }

  same : t.armed ≤ t.armed + 1
  same = omega arith

  one_more : t.armed + 1 ≤ t.armed + 1
  one_more = omega arith

  followed : (rule : Parts → Parts) → Follows rule rows t new after → (rule before).timers.armed ≤ t.armed + 1 → after.armed ≤ t.armed + 1
  followed rule follows below = subst (λ n. n ≤ t.armed + 1) (sym (ap (λ (p : Parts). p.timers.armed) (follows.parts bare_parts))) below

  -- at most one timer is armed as a datagram is sent
  pub armed-resolution : (octets : List ℕ) → Follows (after_resolution half_id_eq now half ip octets) rows t new after → after.armed ≤ t.armed + 1
  unfolding after_hold
  armed-resolution octets follows =
      followed (after_resolution half_id_eq now half ip octets) follows
      (armed_within _ (is_settled half_id_eq half ip (entries_of rows)) _ _ same (armed_within _ (asks half_id_eq half ip (entries_of rows)) _ _ one_more same))

  -- as a packet tells a hardware address
  pub armed-input : (mac : Mac) (is_target : Bool) → Follows (after_input half_id_eq now half ip mac is_target) rows t new after → after.armed ≤ t.armed + 1
  unfolding after_input
  armed-input mac is_target follows =
      followed (after_input half_id_eq now half ip mac is_target) follows
      (armed_within _ (merges half_id_eq half ip (entries_of rows) || adds half_id_eq half ip is_target (entries_of rows)) _ _ one_more same)

  -- and as a timer's turn comes
  pub armed-turn : Follows (after_turn half_id_eq now half ip) rows t new after → after.armed ≤ t.armed + 1
  unfolding after_turn without_entries
  armed-turn follows = followed (after_turn half_id_eq now half ip) follows (by (entry_of half_id_eq half ip (entries_of rows)))
    where
      by_turn : (w : TurnOf) → (turned half_id_eq now half ip before w).timers.armed ≤ t.armed + 1
      by_turn Ask = one_more
      by_turn (GivesUp held) = one_more
      by_turn Removed = same

      by : (o : Option (ArpEntryOf HalfId)) → (option_map_or (λ (e : ArpEntryOf HalfId). turned half_id_eq now half ip before (turn_of e)) o before).timers.armed ≤ t.armed + 1
      by None = same
      by (Some e) = by_turn (turn_of e)
