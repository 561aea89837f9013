-- A sound world settles within its weight, since each delivery keeps it sound and makes it lighter.
use Rattle.std.proofs.Common.{◌≡◌, ◌≤◌, length, Option, Some, None, subst}
use Rattle.std.specs.Option.{option_map}
use Rattle.vn_types.proofs.Options.{none_some, some_same}
use Rattle.vn_types.specs.declared.half.Half.{Half}
use Rattle.vn_cells.specs.declared.event.Event.{Event}
use Rattle.vn_cells.specs.declared.event.Event.TheVariants as event
use Rattle.vn_cells.specs.declared.world.World.{World}
use Rattle.vn_cells.specs.keeping.Sound.{IsSound}
use Rattle.vn_cells.specs.machine.Deliveries.{first_looped, first_reached, next_delivery, settle_events}
use Rattle.vn_cells.specs.machine.Step.{step}
use Rattle.vn_cells.specs.machine.Weight.{weight}
use Rattle.vn_cells.specs.world.Names.{Path}
use Rattle.vn_laws.proofs.local.Delivered.{sound-delivered}
use Rattle.vn_laws.proofs.Steps.{fine-acted}
use Rattle.vn_laws.proofs.settling.Settling.{settles-within}

-- a delivery keeps a world sound, whatever it is called
keeps-sound : (w : World) → IsSound w → (e : Event) → next_delivery w ≡ Some e → IsSound (step w e)
unfolding next_delivery step
keeps-sound w sound e is = by (first_looped w) (first_reached w.pairs) is
  where
    by : (o : Option Path) (r : Option Half) → (elim o as (λ _. Option Event) [ Some p ↦ Some (event.LoopDeliver p) | None ↦ option_map event.Deliver r ]) ≡ Some e → IsSound (step w e)
    by (Some p) r is = subst (λ d. IsSound (step w d)) (some_same (event.LoopDeliver p) e is) (fine-acted sound (event.LoopDeliver p) tt).sound
    by None (Some h) is = subst (λ d. IsSound (step w d)) (some_same (event.Deliver h) e is) (sound-delivered h w sound)
    by None None is = absurd (none_some e is)

pub settled-within : (w : World) → IsSound w → length (settle_events w) ≤ weight w
settled-within w sound = settles-within keeps-sound w sound
