-- How the parts and lines of a script run on the kernel.
use Rattle.std.specs.Prelude.{◌≡◌, ◌<◌, ◌≤◌, List, ◌++◌, length, Some, Result, Ok, Err, OnOk}
use Rattle.vn_cells.specs.declared.event.Event.{Event}
use Rattle.vn_cells.specs.declared.event.TheConstants.{EVENTS_MAX}
use Rattle.vn_cells.specs.machine.Step.{run}
use Rattle.vn_kernel.specs.Machines.{Machine}
use Rattle.vn_kernel.specs.declared.kernel.StepFault.{StepFault}
use Rattle.vn_kernel.specs.declared.kernel.StepFault.TheVariants as fault

-- the kernel is not spent, and its world is the run of its events
abbrev pub StandsForHistory : Machine → Type 0
StandsForHistory kernel = kernel.world ≡ Some (run kernel.events)

-- the events of a run are more than a history may have; want of memory says nothing
abbrev pub TellsFault : StepFault → List Event → Type 0
TellsFault (fault.Long n) events = EVENTS_MAX < length events
TellsFault fault.NoMemory events = Unit {0}

-- a run is too long exactly where its events are more than a history may have
abbrev pub TellsLong : {A : Type 0} → Result A StepFault → List Event → Type 0
TellsLong (Ok x) events = length events ≤ EVENTS_MAX
TellsLong (Err e) events = TellsFault e events

-- the events happened after those before, unless they are too many or memory was wanting
abbrev pub Happen : {A : Type 0} → List Event → Result A StepFault → List Event → List Event → Type 0
Happen events result old new = OnOk result (new ≡ old ++ events) × TellsLong result (old ++ events)
