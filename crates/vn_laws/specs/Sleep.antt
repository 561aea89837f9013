-- The turns of a sleep, and what it has come to when it ends.
use Rattle.std.specs.Prelude.{◌≡◌, ℕ, suc, ◌≤◌, List, ◌++◌, length, Option, Some, None}
use Rattle.vn_cells.specs.declared.event.Event.{Event}
use Rattle.vn_cells.specs.declared.world.World.{World}
use Rattle.vn_cells.specs.machine.Deliveries.{next_delivery, settle_events}
use Rattle.vn_cells.specs.machine.Step.{run_from}
use Rattle.vn_cells.specs.machine.Timing.{next_deadline, tick_to, fire_due, by_time, naps}

-- the events of a turn after which others come: until nothing waits; then to a deadline, where a timer fires
unfoldable pub turn_events : ℕ → World → List Event
turn_events deadline w =
    let calm = settle_events w in
    let v = run_from w calm in
    let tick = tick_to deadline v in
    calm ++ tick ++ fire_due (run_from v tick)

-- a turn of a sleep up to a time: where a deadline comes by then the turn adds an event, and others follow; where
-- none does it is the last
abbrev pub IsTurn : ℕ → ℕ → World → Option ℕ → Type 0
IsTurn more end w (Some deadline) =
    (naps (suc more) end w ≡ turn_events deadline w ++ naps more end (run_from w (turn_events deadline w)))
    × (1 ≤ length (turn_events deadline w))
IsTurn more end w None =
    naps (suc more) end w ≡ settle_events w ++ tick_to end (run_from w (settle_events w))

-- a sleep has come to its end
pub record IsSlept (end : ℕ) (w : World) : Type 0 where
  -- nothing waits
  pub settled : next_delivery w ≡ None
  -- no timer has its deadline by then
  pub fired : by_time end (next_deadline w) ≡ None
  -- and the clock is there
  pub clock : w.clock ≡ end
