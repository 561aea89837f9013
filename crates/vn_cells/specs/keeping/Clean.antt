-- Clean histories: no table, queue or timer names an interface that stands elsewhere.
use Rattle.std.specs.Prelude.{◌≡◌, ℕ, ◌≤◌, Bool, false, ◌&&◌, ◌==◌, List, [], ◌∷◌, ◌++◌, take, count_by}
use Rattle.vn_types.specs.declared.interface.Side.{Side}
use Rattle.vn_types.specs.declared.interface.IfOf.TheVariants.{Lo0, Half as OfHalf}
use Rattle.vn_types.specs.Interfaces.{side_eq}
use Rattle.vn_cells.specs.declared.event.Event.{Event}
use Rattle.vn_cells.specs.world.Names.{Path, If}
use Rattle.vn_cells.specs.world.World.{stack_at, ifs_of}
use Rattle.vn_cells.specs.machine.Step.{run}
use Rattle.vn_cells.specs.keeping.Sound.{IsSound}
use Rattle.vn_cells.specs.keeping.Moved.{LeavesNothing}

-- whether the interface has the name
abbrev pub has_name : ℕ → Side → If → Bool
has_name unit side Lo0 = false
has_name unit side (OfHalf h) = (h.unit == unit) && side_eq h.side side

-- a history whose world stands, and whose last event left nothing behind
pub record IsClean (events : List Event) : Type 0 where
  -- the world is sound
  pub sound : IsSound (run events)
  -- a name stands at most once in a stack
  pub once : (p : Path) (unit : ℕ) (side : Side)
      → count_by (has_name unit side) (ifs_of (stack_at (run events) p)) ≤ 1
  -- a half that the last event moved left nothing behind
  pub last : (before : List Event) (event : Event) → events ≡ before ++ event ∷ []
      → LeavesNothing (run before) (run events)

-- and so is each history that it begins with
abbrev pub IsEachPrefixClean : List Event → Type 0
IsEachPrefixClean events = (n : ℕ) → IsClean (take n events)
