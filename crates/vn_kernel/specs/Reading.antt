-- What the event of a reader leaves of the readers.
use Rattle.std.specs.Prelude.{◌≡◌, ◌≢◌, ◌⊎◌, ℕ, List, [], map, Option, Some, None, unwrap_or}
use Rattle.std.specs.Option.{option_map}
use Rattle.vn_types.specs.Entries.{find, put}
use Rattle.vn_types.specs.Paths.{Path, path_cmp}
use Rattle.vn_rules.specs.declared.outcome.Outcome.{Outcome}
use Rattle.vn_rules.specs.Rules.{Answer, Rule, answer}
use Rattle.vn_cells.specs.declared.event.Event.{Event}
use Rattle.vn_cells.specs.declared.world.Reader.{Reader}
use Rattle.vn_cells.specs.machine.Step.{step}
use Rattle.vn_kernel.specs.Fields.{Fields}
use Rattle.vn_kernel.specs.Readers.{OpenReader, of_lane}
use Rattle.vn_kernel.specs.Stands.{AreRead, Stands}
use Rattle.vn_kernel.specs.Worlds.{readers_of, world_of}

-- the readers of a path, with their counts
abbrev pub open_at : Fields → Path → List OpenReader
open_at f p = unwrap_or (find path_cmp p f.readers) []

-- how many versions were retired when a lane's reader at a path was opened, where it has one
abbrev pub since_at : Fields → Path → ℕ → Option ℕ
since_at f p lane = option_map (λ (r : OpenReader). r.since) (of_lane lane (open_at f p))

-- a reader keeps its count, and a new one has that of before
abbrev pub KeepsSince : Fields → Fields → Type 0
KeepsSince f g = (q : Path) (lane n : ℕ) → since_at g q lane ≡ Some n
    → (since_at f q lane ≡ Some n) ⊎ ((since_at f q lane ≡ None) × (n ≡ f.retired))

-- a reader's event was answered at a path, and its entry is still to be written
pub record Reads (p : Path) (a : Answer (List Reader)) (given : Outcome) (f g : Fields) : Type 0 where
  -- what it is answered
  pub outcome : given ≡ a.outcome
  -- what is left of the path's readers
  pub own : readers_of g p ≡ a.left
  -- those of each other path
  pub elsewhere : (q : Path) → q ≢ p → find path_cmp q g.readers ≡ find path_cmp q f.readers
  -- the counts
  pub since : KeepsSince f g
  -- what is read has a transcript
  pub read : AreRead f.logs g.readers
  -- and nothing else is another
  pub others : g ≡ record f { readers = g.readers }

-- a reader's event happened, as the machine does it
pub record Turns (event : Event) (f g : Fields) : Type 0 where
  -- the world
  pub world : world_of g ≡ step (world_of f) event
  -- all fits together still
  pub stands : Stands g
  -- the counts
  pub since : KeepsSince f g
  -- no more than transcripts and readers is another
  pub others : g ≡ record f { logs = g.logs; readers = g.readers }

-- it was answered by its rule
abbrev pub ReadsBy : (List Reader → Rule (List Reader)) → Path → Outcome → Fields → Fields → Type 0
ReadsBy rule p given f g = Reads p (answer (readers_of f p) (rule (readers_of f p))) given f g
