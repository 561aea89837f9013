-- What becomes of an entry and of its timer.
use Rattle.std.specs.Prelude.{ℕ, ◌<◌, Bool, List, [], Option, Some, None, IfSome}
use Rattle.std.specs.Option.{option_map}
use Rattle.vn_types.specs.declared.address.Ip4.{Ip4}
use Rattle.vn_types.specs.declared.address.Mac.{Mac}
use Rattle.vn_rules.specs.declared.arp.ArpEntryOf.{ArpEntryOf}
use Rattle.vn_rules.specs.declared.arp.ArpState.{ArpState}
use Rattle.vn_rules.specs.declared.arp.ArpState.TheVariants as state
use Rattle.vn_rules.specs.declared.arp.TheConstants.{REQUESTS_MAX}
use Rattle.vn_rules.specs.declared.parts.PartsOf.{PartsOf}
use Rattle.vn_rules.specs.declared.timer.TimerOf.{TimerOf}
use Rattle.vn_rules.specs.declared.timer.TimerOf.TheVariants.{Arp}
use Rattle.vn_rules.specs.declared.timer.TimersOf.{TimersOf}
use Rattle.vn_rules.specs.Arp.{with_entry, without_timer_at}
use Rattle.vn_rules.specs.Resolution.{asked}
use Rattle.vn_rules.specs.Timers.{after_arm}
use Rattle.vn_arp.specs.declared.change.Change.{Change}
use Rattle.vn_arp.specs.declared.change.Change.TheVariants.{Asked, Down, Learnt, Static}

-- which of the datagrams that waited for a neighbour are handed out
abbrev pub released_by : Change → List (List ℕ) → List (List ℕ)
released_by Asked held = []
released_by Down held = held
released_by (Learnt mac) held = held
released_by (Static mac) held = held

module _ {N : Type 0} where
  -- an entry in a state in which it is asked no more, and nothing waits for it
  abbrev pub settled : ArpState → Option Mac → ArpEntryOf N → ArpEntryOf N
  settled state mac e = record e { state = state; mac = mac; requests = 0; held = [] }

  -- what an entry becomes
  abbrev pub changed : Change → ArpEntryOf N → ArpEntryOf N
  changed Asked e = asked e
  changed Down e = settled state.Down e.mac e
  changed (Learnt mac) e = settled state.Learnt (Some mac) e
  changed (Static mac) e = settled state.Static (Some mac) e

  -- what it must be for that, where there is one: fewer requests were sent than may be
  abbrev pub MayBecome : Change → Option (ArpEntryOf N) → Type 0
  MayBecome Asked entry = IfSome entry (λ (e : ArpEntryOf N). e.requests < REQUESTS_MAX)
  MayBecome Down entry = Unit {0}
  MayBecome (Learnt mac) entry = Unit {0}
  MayBecome (Static mac) entry = Unit {0}

  -- a timer is armed for the deadline, where there is one
  abbrev pub armed_for : Option ℕ → TimerOf N → TimersOf N → TimersOf N
  armed_for None timer t = t
  armed_for (Some deadline) timer t = after_arm deadline timer t

  -- its arm number
  abbrev pub arm_for : Option ℕ → TimersOf N → Option ℕ
  arm_for deadline t = option_map (λ _. t.armed) deadline

module _ {N : Type 0} (same : N → N → Bool) where
  -- the entry of an address on a half changes, or is made, and its timer is armed anew for the deadline, or stopped
  abbrev pub after_change : Change → Option ℕ → N → Ip4 → PartsOf N → PartsOf N
  after_change change deadline half ip p = record p {
    arp = with_entry same half ip (changed change) p.arp;
    timers = armed_for deadline (Arp half ip) (without_timer_at same half ip p.timers);
  }
