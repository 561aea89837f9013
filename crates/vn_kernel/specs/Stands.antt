-- What the kernel keeps true of its tables, and what an event makes of them.
use Rattle.std.specs.Prelude.{◌≡◌, ℕ, ◌+◌, ◌^◌, ◌<◌, ◌≤◌, true, false, List, length, Some, None, is_some, IfSome}
use Rattle.std.specs.List.{AllByRecursion}
use Rattle.std.specs.List.Sorted.{IsStrictlySortedBy}
use Rattle.std.specs.Map.{keys_of}
use Rattle.vn_types.specs.Entries.{find}
use Rattle.vn_types.specs.Paths.{Path, Key, path_cmp, key_cmp}
use Rattle.vn_rules.specs.declared.outcome.Outcome.{Outcome}
use Rattle.vn_rules.specs.Rules.{Answer, Rule, answer}
use Rattle.vn_jail.specs.Kept.{IsLinked, IsTree}
use Rattle.vn_jail.specs.Tree.{at, is_known}
use Rattle.vn_vmove.specs.Parts.{lives, pair_at, parts}
use Rattle.vn_vmove.specs.Sound.{IsSound}
use Rattle.vn_ipcore.specs.Scenes.{HasRoom as CanCount}
use Rattle.vn_cells.specs.declared.command.Command.{Command}
use Rattle.vn_cells.specs.declared.event.Event.{Event}
use Rattle.vn_cells.specs.declared.transcript.Entry.{Entry}
use Rattle.vn_cells.specs.declared.world.World.{World}
use Rattle.vn_cells.specs.commands.Taken.{units}
use Rattle.vn_cells.specs.machine.Step.{commanded, entered, opening, step}
use Rattle.vn_kernel.specs.Fields.{Fields}
use Rattle.vn_kernel.specs.Naming.{key_in}
use Rattle.vn_kernel.specs.Worlds.{world_of}
use Rattle.vn_kernel.specs.Readers.{OpenReader}

-- ---- between events

-- open readers are those of paths that have a transcript
pub record AreRead (logs : List (Path × List Entry)) (readers : List (Path × List OpenReader)) : Type 0 where
  -- a path without a transcript has none
  pub listed : (p : Path) → is_some (find path_cmp p logs) ≡ false → find path_cmp p readers ≡ None
  -- they stand in the order of their paths
  pub rise : IsStrictlySortedBy path_cmp (keys_of readers)

-- jails, transcripts, pairs and tables fit together
pub record Stands (f : Fields) : Type 0 where
  -- no two numbers have one path, and each path's parent has a number
  pub linked : IsLinked f.jails
  -- the parent of what lives does too, and living descendants are counted
  pub tree : IsTree f.jails
  -- the tables know who lives
  pub living : (number : ℕ) → lives f.tables number ≡ (at f.jails number).alive
  -- what the tables keep together
  pub sound : IsSound f.tables
  -- a path that has a number has a transcript
  pub listed : (p : Path) → is_known p f.jails ≡ true → is_some (find path_cmp p f.logs) ≡ true
  -- transcripts stand in the order of their paths
  pub logs_rise : IsStrictlySortedBy path_cmp (keys_of f.logs)
  -- what is read has one
  pub read : AreRead f.logs f.readers
  -- each pair is found by its home and unit
  pub keyed : (number : ℕ) → IfSome (key_in f number) (λ k. find key_cmp k f.units ≡ Some number)
  -- and what is found is the number of a pair of that home and unit
  pub paired : AllByRecursion (λ (e : Key × ℕ). key_in f e.1 ≡ Some e.0) f.units
  -- homes and units stand in their order
  pub units_rise : IsStrictlySortedBy key_cmp (keys_of f.units)
  -- a unit is a number of 32 bits
  pub small : (number : ℕ) → IfSome (pair_at f.tables number) (λ pair. pair.unit < 2 ^ 32)

-- so many events can have given no more numbers than these
pub record AreFew (events : ℕ) (f : Fields) : Type 0 where
  -- host has one, and at most one path gets one in each
  pub jails : length f.jails ≤ events + 1
  -- and at most one pair
  pub pairs : length f.tables.pairs ≤ events

-- what grows with the events alone is below 2 ^ 63
pub record AreCounted (f : Fields) : Type 0 where
  -- milliseconds
  pub clock : f.clock < 2 ^ 63
  -- the timers that each stack armed
  pub armed : (number : ℕ) → (parts f.tables number).timers.armed < 2 ^ 63
  -- what it counts
  pub counters : (number : ℕ) → CanCount f.tables number

-- an event can happen: a path can get a number, and a pair a number and a unit
pub record HasRoom (f : Fields) : Type 0 where
  -- a path
  pub jails : length f.jails < 2 ^ 32
  -- a pair
  pub pairs : length f.tables.pairs < units
  -- and what is counted can grow
  pub counted : AreCounted f

-- all fits together, and the stack of a number lives
pub record HasStack (number : ℕ) (f : Fields) : Type 0 where
  -- all fits together
  pub stands : Stands f
  -- the stack lives
  pub alive : (at f.jails number).alive ≡ true

-- as the machine begins: host alone, just constructed
pub record IsOpen (f : Fields) : Type 0 where
  -- the world that it stands for
  pub world : world_of f ≡ opening
  -- all fits together
  pub stands : Stands f
  -- no event was yet
  pub few : AreFew 0 f

-- ---- after an event

-- the readers, and what was retired while one was open
abbrev pub reading : Fields → List (Path × List OpenReader) × ℕ
reading f = (f.readers, f.retired)

-- at most one path and one pair got a number
pub record Grows (f g : Fields) : Type 0 where
  -- paths
  pub jails : length g.jails ≤ length f.jails + 1
  -- pairs
  pub pairs : length g.tables.pairs ≤ length f.tables.pairs + 1

-- what is kept becomes something that stands for a world, and no reader is opened, read or closed
pub record Leaves (w : World) (f g : Fields) : Type 0 where
  -- for that one
  pub world : world_of g ≡ w
  -- and all fits together still
  pub stands : Stands g
  -- numbers
  pub grows : Grows f g
  -- readers
  pub read : reading g ≡ reading f

-- an event happened, as the machine does it
pub record Stepped (event : Event) (f g : Fields) : Type 0 where
  -- the world
  pub world : world_of g ≡ step (world_of f) event
  -- all fits together still
  pub stands : Stands g
  -- numbers
  pub grows : Grows f g

-- a command that reaches beyond its stack was answered, and its entry is still to be written
pub record Answered (a : Answer World) (given : Outcome) (f g : Fields) : Type 0 where
  -- what it is answered
  pub outcome : given ≡ a.outcome
  -- what it leaves
  pub leaves : Leaves a.left f g

-- it was answered by its rule
abbrev pub AnsweredBy : (World → Rule World) → Outcome → Fields → Fields → Type 0
AnsweredBy rule given f g = Answered (answer (world_of f) (rule (world_of f))) given f g

-- a command was run, and its entry is still to be written
pub record Ran (issuer : Path) (command : Command) (given : Outcome) (f g : Fields) : Type 0 where
  -- with its entry the world is the one of the machine
  pub entered : (lane : ℕ) → entered f.clock lane issuer command (record { left = world_of g; outcome = given })
      ≡ commanded lane issuer command (world_of f)
  -- all fits together still
  pub stands : Stands g
  -- numbers
  pub grows : Grows f g
  -- readers
  pub read : reading g ≡ reading f
