-- What the kernel stands for: a world, and the events that led to it.
use Rattle.std.specs.Prelude.{◌≡◌, ◌≤◌, ℕ, Bool, true, false, List, [], ◌∷◌, ◌++◌, length, Option, Some, None, option_map, is_some}
use Rattle.vn_cells.specs.declared.event.Event.{Event}
use Rattle.vn_cells.specs.declared.world.World.{World}
use Rattle.vn_cells.specs.machine.Events.{IsBuilt, IsValid}
use Rattle.vn_cells.specs.machine.Step.{opening, run, step}
use Rattle.vn_cells.specs.declared.event.TheConstants.{EVENTS_MAX}
use Rattle.vn_kernel.specs.Fields.{Fields}
use Rattle.vn_kernel.specs.Stands.{AreFew, Stands}
use Rattle.vn_kernel.specs.Worlds.{world_of}

-- a spent kernel has no world: memory was wanting in the middle of an event
pub record Machine : Type 0 where
  -- the world after the events
  pub world : Option World
  -- oldest first
  pub events : List Event

-- the world of a kernel that is spent or not
abbrev pub kept : Bool → World → Option World
kept true w = None
kept false w = Some w

-- the machine of a new kernel
abbrev pub opened : Machine
opened = record { world = Some opening; events = [] }

-- the machine after one more event
abbrev pub stepped : Event → Machine → Machine
stepped event m = record {
  world = option_map (λ w. step w event) m.world;
  events = m.events ++ event ∷ [];
}

-- the machine of a kernel in which memory was wanting
abbrev pub spent : Machine → Machine
spent m = record m { world = None }

-- so many events stand, which is as many as a history may have
pub record IsLong (n : ℕ) (m : Machine) : Type 0 where
  -- the kernel is not spent
  pub standing : is_some m.world ≡ true
  -- the number of its events
  pub counted : length m.events ≡ n
  -- none more may come
  pub full : n ≡ EVENTS_MAX

-- the world is the run of the events
abbrev pub IsRun : Option World → List Event → Type 0
IsRun None events = Unit {0}
IsRun (Some w) events = w ≡ run events

-- what the kernel keeps of them
pub record IsKept (world : Option World) (events : List Event) : Type 0 where
  -- the world is their run
  pub ran : IsRun world events
  -- there are not too many
  pub short : length events ≤ EVENTS_MAX
  -- each of them could happen
  pub valid : IsValid events
  -- and is one that the program runs
  pub built : IsBuilt events

-- what a kernel keeps that is spent or not
pub record IsHeld (spent : Bool) (f : Fields) (events : List Event) : Type 0 where
  -- what its fields stand for, and the events
  pub machine : IsKept (kept spent (world_of f)) events
  -- they fit together, where it is not spent
  pub stands : spent ≡ false → Stands f
  -- and no more numbers are given than there were events
  pub few : spent ≡ false → AreFew (length events) f
