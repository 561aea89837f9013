-- The ARP entries of a stack, in order of making (arp(4)), and the timers that belong to them.
use Rattle.std.specs.Prelude.{ℕ, ◌-◌, Bool, true, false, not, ◌&&◌, ◌==◌, nat_le, List, [], ◌∷◌, ◌++◌, length, drop, map, Option, Some, None, if◌then◌else◌}
use Rattle.std.specs.List.{filter, find, list_any}
use Rattle.std.specs.Option.{option_map_or, option_and_then}
use Rattle.vn_types.specs.declared.address.Ip4.{Ip4}
use Rattle.vn_types.specs.declared.address.Mac.{Mac}
use Rattle.vn_rules.specs.declared.arp.ArpEntryOf.{ArpEntryOf}
use Rattle.vn_rules.specs.declared.arp.ArpState.{ArpState}
use Rattle.vn_rules.specs.declared.arp.ArpState.TheVariants.{Incomplete, Learnt, Static, Down}
use Rattle.vn_rules.specs.declared.arp.TheConstants.{HELD_MAX}
use Rattle.vn_rules.specs.declared.timer.TimerOf.{TimerOf}
use Rattle.vn_rules.specs.declared.timer.TimerOf.TheVariants.{Arp, Ping}
use Rattle.vn_rules.specs.declared.timer.TimersOf.{TimersOf}
use Rattle.vn_rules.specs.declared.parts.PartsOf.{PartsOf}
use Rattle.vn_rules.specs.Timers.{Timed}

-- whether a state has a hardware address, set by hand or told by the neighbour
abbrev pub is_known : ArpState → Bool
is_known Incomplete = false
is_known Learnt = true
is_known Static = true
is_known Down = false

-- whether the state is that of a neighbour that does not reply
abbrev pub is_down_state : ArpState → Bool
is_down_state Incomplete = false
is_down_state Learnt = false
is_down_state Static = false
is_down_state Down = true

-- whether the hardware address was set by hand
abbrev pub is_static : ArpState → Bool
is_static Incomplete = false
is_static Learnt = false
is_static Static = true
is_static Down = false

-- the last of a list, at most so many
abbrev pub newest : {X : Type 0} → ℕ → List X → List X
newest n xs = drop (length xs - n) xs

module _ {N : Type 0} where
  -- ---- an entry

  -- of a neighbour of which nothing is known, as the first request goes out
  abbrev pub new_entry : N → Ip4 → ArpEntryOf N
  new_entry half ip =
      record { half = half; ip = ip; state = Incomplete; mac = None; requests = 1; held = [] }

  -- its hardware address, where it is known
  abbrev pub known_mac : ArpEntryOf N → Option Mac
  known_mac e = if is_known e.state then e.mac else None

  -- whether it holds as many datagrams as it may
  abbrev pub holds_all : ArpEntryOf N → Bool
  holds_all e = nat_le HELD_MAX (length e.held)

  -- it holds one datagram more, and the oldest gives way
  abbrev pub holding : List ℕ → ArpEntryOf N → ArpEntryOf N
  holding octets e = record e { held = newest HELD_MAX (e.held ++ octets ∷ []) }

  -- the hardware address is known now, and nothing is held any more
  abbrev pub resolved : ArpState → Mac → ArpEntryOf N → ArpEntryOf N
  resolved state mac e = record e { state = state; mac = Some mac; requests = 0; held = [] }

-- ---- by a test on halves and addresses

module _ {N : Type 0} (gone : N → Ip4 → Bool) where
  -- whether it is the timer of an entry of which the test tells by its half and address
  abbrev pub is_timer_where : TimerOf N → Bool
  is_timer_where (Arp half ip) = gone half ip
  is_timer_where (Ping id arm) = false

  -- without the timers of those entries
  abbrev pub without_timers_where : TimersOf N → TimersOf N
  without_timers_where t =
      record t { standing = filter (λ (e : Timed N). not (is_timer_where e.1)) t.standing }

  -- without the entries at those halves and addresses, with the datagrams that they hold and their timers
  unfoldable pub without_entries : PartsOf N → PartsOf N
  without_entries p = record p {
    arp = filter (λ (e : ArpEntryOf N). not (gone e.half e.ip)) p.arp;
    timers = without_timers_where p.timers;
  }

module _ {N : Type 0} (same : N → N → Bool) where
  -- ---- by half and address

  -- whether a half and an address are these
  abbrev pub is_place : N → Ip4 → N → Ip4 → Bool
  is_place half ip own at = same own half && (at.0 == ip.0)

  -- whether it is the entry of the address on the half
  abbrev pub is_entry_at : N → Ip4 → ArpEntryOf N → Bool
  is_entry_at half ip e = is_place half ip e.half e.ip

  -- that entry
  abbrev pub entry_of : N → Ip4 → List (ArpEntryOf N) → Option (ArpEntryOf N)
  entry_of half ip entries = find (is_entry_at half ip) entries

  -- that entry is changed in its place
  abbrev pub on_entry : N → Ip4 → (ArpEntryOf N → ArpEntryOf N) → List (ArpEntryOf N) → List (ArpEntryOf N)
  on_entry half ip f entries = map (λ e. if is_entry_at half ip e then f e else e) entries

  -- or made last, where there is none
  abbrev pub with_entry : N → Ip4 → (ArpEntryOf N → ArpEntryOf N) → List (ArpEntryOf N) → List (ArpEntryOf N)
  with_entry half ip f entries =
      if list_any (is_entry_at half ip) entries then on_entry half ip f entries
      else entries ++ f (new_entry half ip) ∷ []

  -- the entry's timer under its turn
  abbrev pub timer_at : N → Ip4 → TimersOf N → Option (Timed N)
  timer_at half ip t = find (λ (e : Timed N). is_timer_where (is_place half ip) e.1) t.standing

  -- without it
  abbrev pub without_timer_at : N → Ip4 → TimersOf N → TimersOf N
  without_timer_at half ip t = without_timers_where (is_place half ip) t

  -- the hardware address at which the neighbour is reached
  abbrev pub hit : N → Ip4 → List (ArpEntryOf N) → Option Mac
  hit half ip entries = option_and_then known_mac (entry_of half ip entries)

  -- whether the neighbour does not reply
  abbrev pub is_down : N → Ip4 → List (ArpEntryOf N) → Bool
  is_down half ip entries =
      option_map_or (λ (e : ArpEntryOf N). is_down_state e.state) (entry_of half ip entries) false

  -- the datagrams that wait for the neighbour, oldest first
  abbrev pub held_for : N → Ip4 → List (ArpEntryOf N) → List (List ℕ)
  held_for half ip entries =
      option_map_or (λ (e : ArpEntryOf N). e.held) (entry_of half ip entries) []

  -- whether it is a timer of that entry
  abbrev pub is_timer_at : ArpEntryOf N → Timed N → Bool
  is_timer_at e t = is_timer_where (is_place e.half e.ip) t.1
