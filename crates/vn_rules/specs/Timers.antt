-- The timers of a stack: armed, stopped, and taken when they are due (callout(9)).
use Rattle.std.specs.Prelude.{◌≡◌, ℕ, ◌+◌, ◌<◌, ◌≤◌, ◌⊎◌, Bool, ◌==◌, nat_le, not, List, [], ◌∷◌, Option, Some, None, min, All, Contains, if◌then◌else◌}
use Rattle.std.specs.List.{list_any, filter}
use Rattle.std.specs.Option.{option_map}
use Rattle.std.specs.Ordering.{nat_cmp, ordering_then, is_lt}
use Rattle.std.specs.declared.cmp.Ordering.{Ordering}
use Rattle.std.specs.Map.{remove_entry}
use Rattle.std.specs.BTreeMap.{insert_entry, is_at}
use Rattle.vn_rules.specs.declared.timer.TimerOf.{TimerOf}
use Rattle.vn_rules.specs.declared.timer.TimerOf.TheVariants.{Arp, Ping}
use Rattle.vn_rules.specs.declared.timer.TimersOf.{TimersOf}
use Rattle.vn_rules.specs.Interfaces.{is_timer_of}

-- the turn of a timer: its deadline in milliseconds, and its arm number
abbrev pub Turn : Type 0
Turn = ℕ × ℕ

-- by deadline, and by arm number where two have one deadline
abbrev pub turn_cmp : Turn → Turn → Ordering
turn_cmp a b = ordering_then (nat_cmp a.0 b.0) (nat_cmp a.1 b.1)

-- the same order as a fact: a is b or comes before it
abbrev pub IsNotAfter : Turn → Turn → Type 0
IsNotAfter a b = (a.0 < b.0) ⊎ ((a.0 ≡ b.0) × (a.1 ≤ b.1))

-- the lesser of two numbers, where there are any
abbrev pub lesser : Option ℕ → Option ℕ → Option ℕ
lesser None b = b
lesser (Some x) None = Some x
lesser (Some x) (Some y) = Some (min x y)

-- a timer under its turn
abbrev pub Timed : Type 0 → Type 0
Timed N = Turn × TimerOf N

module _ {N : Type 0} where
  -- a stack in which none was armed
  abbrev pub no_timers : TimersOf N
  no_timers = record { armed = 0; standing = [] }

  -- the timer of a ping has its own arm number in it
  abbrev pub with_arm : ℕ → TimerOf N → TimerOf N
  with_arm number (Arp half ip) = Arp half ip
  with_arm number (Ping id arm) = Ping id number

  -- one timer more, with the next arm number
  abbrev pub after_arm : ℕ → TimerOf N → TimersOf N → TimersOf N
  after_arm deadline what t = record {
    armed = t.armed + 1;
    standing = insert_entry turn_cmp t.standing (deadline, t.armed) (with_arm t.armed what);
  }

  -- whether a timer with the arm number stands
  abbrev pub has_timer : ℕ → TimersOf N → Bool
  has_timer arm t = list_any (λ (e : Timed N). e.0.1 == arm) t.standing

  -- without the timer of an arm number
  abbrev pub without_timer : ℕ → TimersOf N → TimersOf N
  without_timer arm t =
      record t { standing = filter (λ (e : Timed N). not (e.0.1 == arm)) t.standing }

  -- the one that comes first
  abbrev pub earlier : Timed N → Option (Timed N) → Timed N
  earlier e None = e
  earlier e (Some f) = if is_lt (turn_cmp f.0 e.0) then f else e

  -- the timer with the least deadline, and with the least arm number among those of that deadline
  abbrev pub earliest : List (Timed N) → Option (Timed N)
  earliest [] = None
  earliest (e ∷ es) = Some (earlier e (earliest es))

  -- whether the deadline has come
  abbrev pub is_due : ℕ → Timed N → Bool
  is_due now e = nat_le e.0.0 now

  -- the earliest of the timers whose deadline has come
  abbrev pub next_due : ℕ → TimersOf N → Option (Timed N)
  next_due now t = earliest (filter (is_due now) t.standing)

  -- what that timer is for
  abbrev pub due : ℕ → TimersOf N → Option (TimerOf N)
  due now t = option_map (λ (e : Timed N). e.1) (next_due now t)

  -- without that timer, if there is one
  abbrev pub without_timed : Option (Timed N) → TimersOf N → TimersOf N
  without_timed None t = t
  without_timed (Some e) t = record t { standing = remove_entry (is_at (turn_cmp e.0)) t.standing }

  -- what stands once it is taken out
  abbrev pub after_due : ℕ → TimersOf N → TimersOf N
  after_due now t = without_timed (next_due now t) t

  -- the least deadline of the timers that stand
  abbrev pub soonest : TimersOf N → Option ℕ
  soonest t = option_map (λ (e : Timed N). e.0.0) (earliest t.standing)

  -- the least deadline of several stacks
  abbrev pub least : List (TimersOf N) → Option ℕ
  least [] = None
  least (t ∷ ts) = lesser (soonest t) (least ts)

  -- a timer for `what` stands and is due, and no other that is due comes before it
  pub record IsFirstDue (now : ℕ) (t : TimersOf N) (what : TimerOf N) : Type 0 where
    -- its turn
    pub at : Turn
    -- it is among those that stand
    pub stands : Contains t.standing (at, what)
    -- its deadline has come
    pub has_come : at.0 ≤ now
    -- none that is due has an earlier turn
    pub is_first : All (λ (e : Timed N). e.0.0 ≤ now → IsNotAfter at e.0) t.standing

module _ {N : Type 0} (same : N → N → Bool) where
  -- without the timers of the ARP entries on a half
  abbrev pub times_without : N → TimersOf N → TimersOf N
  times_without half t =
      record t { standing = filter (λ (e : Timed N). not (is_timer_of same half e.1)) t.standing }
