-- The time that passes in a sleep: deliveries, and timers as they become due (callout(9)).
use Rattle.std.specs.Prelude.{ℕ, zero, suc, ◌+◌, ◌-◌, nat_lt, nat_le, List, [], ◌∷◌, ◌++◌, find, Option, Some, None, if◌then◌else◌}
use Rattle.std.specs.List.{filter_map}
use Rattle.std.specs.Option.{option_map}
use Rattle.vn_types.specs.declared.half.Half.{Half}
use Rattle.vn_rules.specs.declared.timer.TimersOf.{TimersOf}
use Rattle.vn_rules.specs.Timers.{least}
use Rattle.vn_cells.specs.declared.event.Event.{Event}
use Rattle.vn_cells.specs.declared.event.Event.TheVariants as event
use Rattle.vn_cells.specs.declared.world.Live.{Live}
use Rattle.vn_cells.specs.declared.world.World.{World}
use Rattle.vn_cells.specs.world.Names.{Path}
use Rattle.vn_cells.specs.machine.Queues.{has_due}
use Rattle.vn_cells.specs.machine.Step.{run_from}
use Rattle.vn_cells.specs.machine.Deliveries.{past_most_events, settle_events}

-- the timers of each living stack
abbrev pub all_timers : World → List (TimersOf Half)
all_timers w = filter_map (λ s. option_map (λ (live : Live). live.parts.timers) s.1.live) w.stacks

-- the least deadline of all
unfoldable pub next_deadline : World → Option ℕ
next_deadline w = least (all_timers w)

-- the first path with a timer that is due
unfoldable pub first_due : World → Option Path
first_due w = option_map (λ s. s.0) (find (λ s. has_due w.clock s.1.live) w.stacks)

-- the clock moves on to a time, where that is later
abbrev pub tick_to : ℕ → World → List Event
tick_to time w = if nat_lt w.clock time then event.Tick (time - w.clock) ∷ [] else []

-- the timer that is due fires
abbrev pub fire_due : World → List Event
fire_due w = elim (first_due w) as (λ _. List Event) [ Some p ↦ event.Fire p ∷ [] | None ↦ [] ]

-- a deadline that comes by that time
abbrev pub by_time : ℕ → Option ℕ → Option ℕ
by_time end None = None
by_time end (Some deadline) = if nat_le deadline end then Some deadline else None

-- until nothing waits; then to the least deadline, where a timer fires, and again, at most so often; at last to
-- the end
unfoldable pub naps : ℕ → ℕ → World → List Event
naps zero end w = []
naps (suc more) end w =
    let calm = settle_events w in
    let v = run_from w calm in
    calm ++ (elim (by_time end (next_deadline v)) as (λ _. List Event) [
      | None ↦ tick_to end v
      | Some deadline ↦
          let tick = tick_to deadline v in
          let u = run_from v tick in
          let fire = fire_due u in
          tick ++ fire ++ naps more end (run_from u fire)
    ])

-- so many milliseconds from now
abbrev pub sleep_events : ℕ → World → List Event
sleep_events n w = naps past_most_events (w.clock + n) w
