-- The awaited pings of a stack (ping(8)), each with its timer.
use Rattle.std.specs.Prelude.{ℕ, ◌+◌, ◌%◌, ◌^◌, Bool, false, not, ◌&&◌, ◌==◌, List, [], ◌∷◌, ◌++◌, Option, if◌then◌else◌}
use Rattle.std.specs.List.{list_any, filter, find}
use Rattle.vn_types.specs.declared.address.Ip4.{Ip4}
use Rattle.vn_types.specs.declared.interface.IfOf.{IfOf}
use Rattle.vn_types.specs.Interfaces.{if_same}
use Rattle.vn_rules.specs.declared.ping.PingOf.{PingOf}
use Rattle.vn_rules.specs.declared.ping.PingsOf.{PingsOf}
use Rattle.vn_rules.specs.declared.timer.TimerOf.TheVariants.{Arp, Ping}
use Rattle.vn_rules.specs.declared.timer.TimersOf.{TimersOf}
use Rattle.vn_rules.specs.declared.parts.PartsOf.{PartsOf}
use Rattle.vn_rules.specs.Timers.{Timed, after_arm}

-- how long a reply is awaited, in milliseconds
abbrev pub reply_time : ℕ
reply_time = 10000

module _ {N : Type 0} where
  -- whether it is the timer of that awaited ping
  abbrev pub is_timer_for : PingOf N → Timed N → Bool
  is_timer_for ping (at, Arp half ip) = false
  is_timer_for ping (at, Ping id arm) = (at.1 == ping.arm) && (arm == ping.arm) && (id == ping.id)

  -- whether the request was sent from the address
  abbrev pub is_from : Ip4 → PingOf N → Bool
  is_from ip ping = ping.src.0 == ip.0

  -- whether the timer's arm number is that of a ping that passes the test
  abbrev pub is_armed_by : (PingOf N → Bool) → List (PingOf N) → Timed N → Bool
  is_armed_by test pings e = list_any (λ (ping : PingOf N). test ping && (e.0.1 == ping.arm)) pings

  -- ---- sent and answered

  -- a stack that sent none
  abbrev pub no_pings : PingsOf N
  no_pings = record { next = 0; awaited = [] }

  -- one awaited ping more, the last, and the next identifier of 16 bits
  abbrev pub after_ping : PingOf N → PingsOf N → PingsOf N
  after_ping ping pings =
      record { next = (pings.next + 1) % 2 ^ 16; awaited = pings.awaited ++ ping ∷ [] }

  -- the next request, which the next timer is for
  abbrev pub next_ping : Ip4 → Ip4 → IfOf N → PartsOf N → PingOf N
  next_ping src dst out p =
      record { id = p.pings.next; src = src; dst = dst; out = out; arm = p.timers.armed }

  -- its reply is awaited from now on
  unfoldable pub awaiting : ℕ → Ip4 → Ip4 → IfOf N → PartsOf N → PartsOf N
  awaiting now src dst out p = record p {
    pings = after_ping (next_ping src dst out p) p.pings;
    timers = after_arm (now + reply_time) (Ping p.pings.next p.timers.armed) p.timers;
  }

  -- whether a reply with the identifier from the address answers the request (RFC 792)
  abbrev pub is_answered_by : ℕ → Ip4 → PingOf N → Bool
  is_answered_by id from ping = (ping.id == id) && (ping.dst.0 == from.0)

  -- whether an error that quotes these fields is about the request (RFC 792)
  abbrev pub is_quoted_by : ℕ → Ip4 → Ip4 → PingOf N → Bool
  is_quoted_by id src dst ping = (ping.id == id) && is_from src ping && (ping.dst.0 == dst.0)

  -- whether its timer has the arm number
  abbrev pub is_timed_by : ℕ → PingOf N → Bool
  is_timed_by arm ping = ping.arm == arm

  -- the first awaited ping that a reply answers
  abbrev pub awaited_by : ℕ → Ip4 → PingsOf N → Option (PingOf N)
  awaited_by id from pings = find (is_answered_by id from) pings.awaited

  -- the first awaited ping that an error is about
  abbrev pub awaited_for : ℕ → Ip4 → Ip4 → PingsOf N → Option (PingOf N)
  awaited_for id src dst pings = find (is_quoted_by id src dst) pings.awaited

  -- the first awaited ping whose timer has the arm number
  abbrev pub timed_by : ℕ → PingsOf N → Option (PingOf N)
  timed_by arm pings = find (is_timed_by arm) pings.awaited

  -- without the first that passes the test
  abbrev pub without_first : (PingOf N → Bool) → List (PingOf N) → List (PingOf N)
  without_first test [] = []
  without_first test (ping ∷ pings) = if test ping then pings else ping ∷ without_first test pings

  -- the first awaited ping that passes the test is awaited no more
  abbrev pub after_first : (PingOf N → Bool) → PingsOf N → PingsOf N
  after_first test pings = record pings { awaited = without_first test pings.awaited }

  -- ---- pings that go

  -- without the awaited pings that pass the test
  abbrev pub pings_without : (PingOf N → Bool) → PingsOf N → PingsOf N
  pings_without gone pings =
      record pings { awaited = filter (λ ping. not (gone ping)) pings.awaited }

  -- without the timers of those of the pings that pass the test
  abbrev pub timers_without : (PingOf N → Bool) → List (PingOf N) → TimersOf N → TimersOf N
  timers_without gone pings timers =
      record timers { standing = filter (λ e. not (is_armed_by gone pings e)) timers.standing }

  -- without the awaited pings that pass the test, and without their timers
  unfoldable pub without_pings : (PingOf N → Bool) → PartsOf N → PartsOf N
  without_pings gone p = record p {
    pings = pings_without gone p.pings;
    timers = timers_without gone p.pings.awaited p.timers;
  }

  -- an awaited ping has come to its end, and its timer
  abbrev pub without_ping : PingOf N → PartsOf N → PartsOf N
  without_ping ping p = without_pings (is_timed_by ping.arm) p

module _ {N : Type 0} (same : N → N → Bool) where
  -- whether the request went out by the interface
  abbrev pub is_out_by : IfOf N → PingOf N → Bool
  is_out_by on ping = if_same same ping.out on
