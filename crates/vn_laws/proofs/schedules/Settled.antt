-- After as many deliveries as settle makes nothing waits, unless there are too many for a run.
use Rattle.std.proofs.Common.{◌≡◌, ℕ, zero, suc, ◌+◌, ◌≤◌, ◌<◌, List, [], ◌∷◌, length, Option, Some, None, refl, arith}
use Rattle.vn_cells.specs.declared.event.Event.{Event}
use Rattle.vn_cells.specs.declared.event.TheConstants.{EVENTS_MAX}
use Rattle.vn_cells.specs.declared.world.World.{World}
use Rattle.vn_cells.specs.machine.Deliveries.{next_delivery, deliveries, settle_events}
use Rattle.vn_cells.specs.machine.Step.{step, run_from}

-- fewer than the most deliveries are all that there were
settled_by : (most : ℕ) (w : World) → length (deliveries most w) < most → next_delivery (run_from w (deliveries most w)) ≡ None
unfolding deliveries run_from
settled_by zero w few = absurd (omega arith)
settled_by (suc most) w few = by (next_delivery w) refl few (λ delivery. settled_by most (step w delivery))
  where
    from : Option Event → List Event
    from o = elim o as (λ _. List Event) [ None ↦ [] | Some delivery ↦ delivery ∷ deliveries most (step w delivery) ]

    by : (o : Option Event) → next_delivery w ≡ o → length (from o) < suc most
        → ((delivery : Event) → length (deliveries most (step w delivery)) < most
        → next_delivery (run_from (step w delivery) (deliveries most (step w delivery))) ≡ None)
        → next_delivery (run_from w (from o)) ≡ None
    by None e few rest = e
    by (Some delivery) e few rest = rest delivery (omega (arith, few))

pub settled : (w : World) → length (settle_events w) ≤ EVENTS_MAX → next_delivery (run_from w (settle_events w)) ≡ None
settled w few = settled_by (EVENTS_MAX + 1) w (omega (arith, few))
