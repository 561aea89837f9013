-- What waits, and in which order it is delivered.
use Rattle.std.specs.Prelude.{ℕ, zero, suc, ◌+◌, List, [], ◌∷◌, find, Option, Some, None, if◌then◌else◌}
use Rattle.std.specs.Option.{option_map}
use Rattle.vn_types.specs.declared.half.Half.{Half}
use Rattle.vn_types.specs.declared.interface.Side.TheVariants.{A, B}
use Rattle.vn_cells.specs.declared.event.Event.{Event}
use Rattle.vn_cells.specs.declared.event.Event.TheVariants as event
use Rattle.vn_cells.specs.declared.event.TheConstants.{EVENTS_MAX}
use Rattle.vn_cells.specs.declared.world.Pair.{Pair}
use Rattle.vn_cells.specs.declared.world.World.{World}
use Rattle.vn_cells.specs.world.Names.{Path, Key, half_on}
use Rattle.vn_cells.specs.machine.Queues.{has_any, frames_to, has_datagram}
use Rattle.vn_cells.specs.machine.Step.{step}

-- ---- the first delivery

-- the first path with a datagram on its way through lo0
unfoldable pub first_looped : World → Option Path
first_looped w = option_map (λ s. s.0) (find (λ s. has_datagram s.1.live) w.stacks)

-- the half of a pair to which a frame comes, side a first
abbrev pub reached_in : Key × Pair → Option Half
reached_in (k, pair) =
    if has_any (frames_to A pair) then Some (half_on A k)
    else (if has_any (frames_to B pair) then Some (half_on B k) else None)

-- the first half to which a frame comes, by home, unit and side
unfoldable pub first_reached : List (Key × Pair) → Option Half
first_reached [] = None
first_reached (e ∷ es) = elim (reached_in e) as (λ _. Option Half) [ Some h ↦ Some h | None ↦ first_reached es ]

-- of datagrams on their way through lo0 the first, else of frames
unfoldable pub next_delivery : World → Option Event
next_delivery w =
    elim (first_looped w) as (λ _. Option Event) [
      | Some p ↦ Some (event.LoopDeliver p)
      | None ↦ option_map event.Deliver (first_reached w.pairs)
    ]

-- ---- until nothing waits

-- the first delivery over and over, at most so often
unfoldable pub deliveries : ℕ → World → List Event
deliveries zero w = []
deliveries (suc more) w =
    elim (next_delivery w) as (λ _. List Event) [
      | None ↦ []
      | Some delivery ↦ delivery ∷ deliveries more (step w delivery)
    ]

-- more events than a run may have
abbrev pub past_most_events : ℕ
past_most_events = EVENTS_MAX + 1

-- until nothing waits
abbrev pub settle_events : World → List Event
settle_events w = deliveries past_most_events w
