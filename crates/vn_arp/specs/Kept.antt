-- The entries of a stack, each with the arm number of its timer, beside the stack's timers.
use Rattle.std.specs.Prelude.{◌≡◌, ℕ, ◌<◌, ◌^◌, Bool, true, false, ◌==◌, not, List, [], ◌∷◌, map, Option, Some, None, IfSome, All, if◌then◌else◌}
use Rattle.std.specs.List.{find, filter}
use Rattle.std.specs.Option.{option_and_then}
use Rattle.vn_types.specs.declared.address.Ip4.{Ip4}
use Rattle.vn_rules.specs.declared.arp.ArpEntryOf.{ArpEntryOf}
use Rattle.vn_rules.specs.declared.parts.PartsOf.{PartsOf}
use Rattle.vn_rules.specs.declared.timer.TimersOf.{TimersOf}
use Rattle.vn_rules.specs.Arp.{is_place, is_entry_at, is_timer_where, with_entry}
use Rattle.vn_rules.specs.Orders.{are_distinct}
use Rattle.vn_rules.specs.Timers.{Timed}

-- an entry, as the table keeps it
pub record KeptOf (N : Type 0) : Type 0 where
  -- what is known of the neighbour
  pub entry : ArpEntryOf N
  -- the arm number of its timer, where one was armed and not stopped
  pub arm : Option ℕ

module _ {N : Type 0} where
  -- the entries alone
  abbrev pub entries_of : List (KeptOf N) → List (ArpEntryOf N)
  entries_of rows = map (λ (k : KeptOf N). k.entry) rows

  -- whether a timer has the number, where there is one
  abbrev pub is_numbered : Option ℕ → Timed N → Bool
  is_numbered None t = false
  is_numbered (Some arm) t = t.0.1 == arm

  -- without the timer of the number
  abbrev pub without_numbered : Option ℕ → TimersOf N → TimersOf N
  without_numbered arm t =
      record t { standing = filter (λ (e : Timed N). not (is_numbered arm e)) t.standing }

  -- without the timers of those of the entries that go, by their numbers
  abbrev pub without_gone : (N → Ip4 → Bool) → List (KeptOf N) → TimersOf N → TimersOf N
  without_gone gone [] t = t
  without_gone gone (k ∷ rows) t =
      without_gone gone rows (if gone k.entry.half k.entry.ip then without_numbered k.arm t else t)

  -- a stack's parts with these entries and timers
  abbrev pub parts_with : List (KeptOf N) → TimersOf N → PartsOf N → PartsOf N
  parts_with rows timers p = record p { arp = entries_of rows; timers = timers }

  -- entries and timers become what the rule makes of them, whatever else stands in the stack
  pub record Follows (rule : PartsOf N → PartsOf N) (old : List (KeptOf N)) (before : TimersOf N) (new : List (KeptOf N)) (after : TimersOf N) : Type 0 where
    -- in any stack
    pub parts : (p : PartsOf N) → parts_with new after p ≡ rule (parts_with old before p)

module _ {N : Type 0} (same : N → N → Bool) where
  -- whether it is the entry of the address on the half
  abbrev pub is_kept_at : N → Ip4 → KeptOf N → Bool
  is_kept_at half ip k = is_entry_at same half ip k.entry

  -- the arm number that is kept for the address on the half
  abbrev pub arm_of : N → Ip4 → List (KeptOf N) → Option ℕ
  arm_of half ip rows = option_and_then (λ (k : KeptOf N). k.arm) (find (is_kept_at half ip) rows)

  -- each timer of an address on a half has the number that is told for it, and no other timer has it
  pub record Tells (arms : N → Ip4 → Option ℕ) (t : TimersOf N) : Type 0 where
    -- by half and address; where no number is told, no timer stands
    pub tells : (half : N) (ip : Ip4)
        → All (λ (e : Timed N). is_timer_where (is_place same half ip) e.1 ≡ is_numbered (arms half ip) e) t.standing
    -- it was given before
    pub given : (half : N) (ip : Ip4) → IfSome (arms half ip) (λ arm. arm < t.armed)
    -- no two timers have one number
    pub apart : are_distinct (λ (e : Timed N) (f : Timed N). e.0.1 == f.0.1) t.standing ≡ true

  -- the numbers that are kept are those of the entries' timers
  abbrev pub KnowsArms : List (KeptOf N) → TimersOf N → Type 0
  KnowsArms rows t = Tells (λ half ip. arm_of half ip rows) t

  -- what a call needs that may arm a timer for a time after now
  pub record MayArm (now : ℕ) (rows : List (KeptOf N)) (t : TimersOf N) : Type 0 where
    -- the deadline fits
    pub clock : now < 2 ^ 63
    -- and its arm number
    pub armed : t.armed < 2 ^ 63
    -- the numbers that are kept are those of the entries' timers
    pub knows : KnowsArms rows t

  -- the entry of an address on a half is changed in its place, or made last, and has that arm number
  pub record IsPut (half : N) (ip : Ip4) (f : ArpEntryOf N → ArpEntryOf N) (arm : Option ℕ) (old new : List (KeptOf N)) : Type 0 where
    -- the entries
    pub entries : entries_of new ≡ with_entry same half ip f (entries_of old)
    -- the numbers that are kept
    pub arms : (own : N) (at : Ip4)
        → arm_of own at new ≡ (if is_place same half ip own at then arm else arm_of own at old)
