-- How a neighbour's hardware address is asked for, learnt and forgotten (RFC 826, arp(4)).
use Rattle.std.specs.Prelude.{ℕ, ◌+◌, ◌%◌, Bool, false, not, ◌&&◌, ◌||◌, ◌==◌, nat_lt, is_none, List, [], ◌∷◌, length, get_or, if◌then◌else◌}
use Rattle.std.specs.List.{list_any, list_all}
use Rattle.std.specs.Option.{option_map_or}
use Rattle.vn_types.specs.declared.address.Ip4.{Ip4}
use Rattle.vn_types.specs.declared.address.Mac.{Mac}
use Rattle.vn_types.specs.declared.errno.Errno.{Errno}
use Rattle.vn_types.specs.declared.errno.Errno.TheVariants as errno
use Rattle.vn_rules.specs.declared.arp.ArpEntryOf.{ArpEntryOf}
use Rattle.vn_rules.specs.declared.arp.ArpState.{ArpState}
use Rattle.vn_rules.specs.declared.arp.ArpState.TheVariants.{Incomplete, Learnt, Static, Down}
use Rattle.vn_rules.specs.declared.arp.TheConstants.{REQUESTS_MAX}
use Rattle.vn_rules.specs.declared.timer.TimerOf.TheVariants.{Arp}
use Rattle.vn_rules.specs.declared.parts.PartsOf.{PartsOf}
use Rattle.vn_rules.specs.Addresses.{local}
use Rattle.vn_rules.specs.Arp.{is_static, entry_of, holds_all, holding, resolved, with_entry, is_place, without_timer_at, held_for, without_entries}
use Rattle.vn_rules.specs.Routes.{gateway_half}
use Rattle.vn_rules.specs.Timers.{after_arm}

-- milliseconds from a request to the next
abbrev pub request_time : ℕ
request_time = 1000

-- milliseconds for which a neighbour that did not reply is not asked again
abbrev pub down_time : ℕ
down_time = 20000

-- milliseconds for which a learnt hardware address is kept
abbrev pub learnt_time : ℕ
learnt_time = 1200000

-- whether no station has the hardware address: it is that of a group, or all zero (IEEE 802)
abbrev pub is_no_station : Mac → Bool
is_no_station mac = (get_or mac.0 0 0 % 2 == 1) || list_all (λ octet. octet == 0) mac.0

-- what an entry's timer does
pub data TurnOf : Type 0 where
  -- another request goes out
  Ask : TurnOf
  -- no reply came to the last request: so many datagrams are held no more
  GivesUp : ℕ → TurnOf
  -- the entry is removed
  Removed : TurnOf

-- what is done to an entry by its state, the requests that were sent and the datagrams that it holds
abbrev pub turn_in : ArpState → ℕ → ℕ → TurnOf
turn_in Incomplete requests held = if nat_lt requests REQUESTS_MAX then Ask else GivesUp held
turn_in Learnt requests held = Removed
turn_in Static requests held = Removed
turn_in Down requests held = Removed

module _ {N : Type 0} where
  -- what is done to an entry
  abbrev pub turn_of : ArpEntryOf N → TurnOf
  turn_of e = turn_in e.state e.requests (length e.held)

  -- one request more was sent
  abbrev pub asked : ArpEntryOf N → ArpEntryOf N
  asked e = record e { requests = e.requests + 1 }

  -- the neighbour does not reply
  abbrev pub given_up : ArpEntryOf N → ArpEntryOf N
  given_up e = record e { state = Down; requests = 0; held = [] }

module _ {N : Type 0} (same : N → N → Bool) where
  -- the entry of an address on a half is changed, or made, and its timer armed for the deadline
  abbrev pub timed_entry : ℕ → N → Ip4 → (ArpEntryOf N → ArpEntryOf N) → PartsOf N → PartsOf N
  timed_entry deadline half ip f p =
      record p { arp = with_entry same half ip f p.arp; timers = after_arm deadline (Arp half ip) p.timers }

  -- without its timer
  abbrev pub untimed : N → Ip4 → PartsOf N → PartsOf N
  untimed half ip p = record p { timers = without_timer_at same half ip p.timers }

  -- ---- a datagram is held

  -- whether a request goes out with it
  abbrev pub asks : N → Ip4 → List (ArpEntryOf N) → Bool
  asks half ip entries = is_none (entry_of same half ip entries)

  -- whether the oldest of those that are held gives way
  abbrev pub drops_oldest : N → Ip4 → List (ArpEntryOf N) → Bool
  drops_oldest half ip entries = option_map_or holds_all (entry_of same half ip entries) false

  -- it is held for an address that is not known
  unfoldable pub after_hold : ℕ → N → Ip4 → List ℕ → PartsOf N → PartsOf N
  after_hold now half ip octets p =
      if asks half ip p.arp then timed_entry (now + request_time) half ip (holding octets) p
      else record p { arp = with_entry same half ip (holding octets) p.arp }

  -- ---- a packet tells the sender's hardware address

  -- whether the sender's entry is overwritten by it: a static one stays, though the packet counts as merged
  -- with it, so that `adds' adds none
  abbrev pub merges : N → Ip4 → List (ArpEntryOf N) → Bool
  merges half ip entries =
      option_map_or (λ (e : ArpEntryOf N). not (is_static e.state)) (entry_of same half ip entries) false

  -- whether the sender has an entry from now on: it had none, and the target is an address of the half
  abbrev pub adds : N → Ip4 → Bool → List (ArpEntryOf N) → Bool
  adds half ip is_target entries = is_target && is_none (entry_of same half ip entries)

  -- the datagrams that are sent now
  abbrev pub released : N → Ip4 → List (ArpEntryOf N) → List (List ℕ)
  released half ip entries = if merges half ip entries then held_for same half ip entries else []

  -- the sender's hardware address is learnt
  unfoldable pub after_input : ℕ → N → Ip4 → Mac → Bool → PartsOf N → PartsOf N
  after_input now half ip mac is_target p =
      if merges half ip p.arp || adds half ip is_target p.arp
      then timed_entry (now + learnt_time) half ip (resolved Learnt mac) (untimed half ip p)
      else p

  -- ---- an entry's timer, which was taken out

  -- what is left of the stack
  abbrev pub turned : ℕ → N → Ip4 → PartsOf N → TurnOf → PartsOf N
  turned now half ip p Ask = timed_entry (now + request_time) half ip asked p
  turned now half ip p (GivesUp held) = timed_entry (now + down_time) half ip given_up p
  turned now half ip p Removed = without_entries (is_place same half ip) p

  -- by the entry that is there
  unfoldable pub after_turn : ℕ → N → Ip4 → PartsOf N → PartsOf N
  after_turn now half ip p =
      option_map_or (λ (e : ArpEntryOf N). turned now half ip p (turn_of e)) (entry_of same half ip p.arp) p

  -- ---- by hand

  -- the hardware address of the address on the half is set
  unfoldable pub after_static : N → Ip4 → Mac → PartsOf N → PartsOf N
  after_static half ip mac p =
      record (untimed half ip p) { arp = with_entry same half ip (resolved Static mac) p.arp }

  -- on the half beyond which the address lies
  unfoldable pub after_arp_set : Ip4 → Mac → PartsOf N → PartsOf N
  after_arp_set ip mac p =
      option_map_or (λ half. after_static half ip mac p) (gateway_half ip p.routes) p

module _ {N : Type 0} where
  -- why it is not: no station has the hardware address, the address is the stack's, or it lies beyond no half
  unfoldable pub static_refusals : Ip4 → Mac → PartsOf N → List (Bool × Errno)
  static_refusals ip mac p =
      (is_no_station mac, errno.Inval)
      ∷ (local ip p.addresses, errno.Exist)
      ∷ (is_none (gateway_half ip p.routes), errno.NetUnreach)
      ∷ []

  -- the entries of an address are removed, on whatever half
  unfoldable pub after_arp_delete : Ip4 → PartsOf N → PartsOf N
  after_arp_delete ip p = without_entries (λ half own. own.0 == ip.0) p

  -- why they are not
  abbrev pub arp_delete_refusals : Ip4 → List (ArpEntryOf N) → List (Bool × Errno)
  arp_delete_refusals ip entries =
      (not (list_any (λ (e : ArpEntryOf N). e.ip.0 == ip.0) entries), errno.NoEnt) ∷ []
