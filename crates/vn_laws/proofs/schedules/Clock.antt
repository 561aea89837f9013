-- The clock moves on by a day at most with each event.
use Rattle.std.proofs.Common.{◌≡◌, ◌+◌, ◌*◌, ◌≤◌, true, false, List, [], ◌∷◌, length, refl, arith}
use Rattle.std.specs.Prelude.{nat_le}
use Rattle.std.specs.List.{list_all}
use Rattle.std.proofs.lemmas.Bool.{and_parts}
use Rattle.vn_cells.specs.declared.event.Event.{Event}
use Rattle.vn_cells.specs.declared.event.Event.TheVariants as event
use Rattle.vn_cells.specs.declared.world.World.{World}
use Rattle.vn_cells.specs.world.World.{later}
use Rattle.vn_cells.specs.machine.Events.{is_valid_event, IsValid}
use Rattle.vn_cells.specs.machine.Step.{opening, run, run_from, step}
use Rattle.vn_cells.specs.sets.Changed.{is_common}
use Rattle.vn_laws.proofs.Steps.{clock-step}

still : (w : World) (event : Event) → is_common event ≡ false → (step w event).clock ≤ w.clock + 86400000
still w event own = let same = clock-step w event own in omega (arith, same)

ticked : (w : World) (event : Event) → is_valid_event event ≡ true → (step w event).clock ≤ w.clock + 86400000
unfolding step later is_valid_event is_common
ticked w (event.Tick n) valid =
    let most : nat_le n 86400000 ≡ true = (and_parts (nat_le 1 n) (nat_le n 86400000) valid).1 in grind (arith, most)
ticked w (event.Cmd lane path command) valid = still w (event.Cmd lane path command) refl
ticked w (event.Deliver half) valid = still w (event.Deliver half) refl
ticked w (event.LoopDeliver path) valid = still w (event.LoopDeliver path) refl
ticked w (event.Fire path) valid = still w (event.Fire path) refl
ticked w (event.Open lane path table) valid = still w (event.Open lane path table) refl
ticked w (event.Next lane path) valid = still w (event.Next lane path) refl
ticked w (event.Close lane path) valid = still w (event.Close lane path) refl

ticked_all : (w : World) (events : List Event) → list_all is_valid_event events ≡ true → (run_from w events).clock ≤ w.clock + 86400000 * length events
unfolding run_from
ticked_all w [] valid = omega arith
ticked_all w (event ∷ events) valid =
    let parts = and_parts (is_valid_event event) (list_all is_valid_event events) valid in
    let one = ticked w event parts.0 in
    let more = ticked_all (step w event) events parts.1 in
    omega (arith, one, more)

pub clock_grows : (events : List Event) → IsValid events → (run events).clock ≤ 86400000 * length events
clock_grows events valid = let all = ticked_all opening events valid in omega (arith, all)
