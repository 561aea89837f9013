-- The events that are no commands: time passes, and what acts in one stack.
use Rattle.std.proofs.Common.{◌≡◌, ℕ, ◌+◌, Bool, true, false, Option, Some, None, refl, ap}
use Rattle.vn_types.specs.declared.half.Half.{Half}
use Rattle.vn_rules.specs.Scenes.{SceneOf}
use Rattle.vn_cells.specs.declared.cell.Cells.{Cells}
use Rattle.vn_cells.specs.declared.event.Event.{Event}
use Rattle.vn_cells.specs.declared.world.World.{World}
use Rattle.vn_cells.specs.world.Names.{Path}
use Rattle.vn_cells.specs.world.World.{stack_at, pair_at, later}
use Rattle.vn_cells.specs.machine.Local.{local, act}
use Rattle.vn_cells.specs.machine.Step.{where_true, acted}
use Rattle.vn_cells.specs.sets.Sets.{in_stacks}
use Rattle.vn_laws.specs.Relations.{Alike, Belongs}
use Rattle.vn_laws.proofs.edits.Shapes.{SameShape}
use Rattle.vn_laws.proofs.local.Acted.{sound_after}
use Rattle.vn_laws.proofs.local.Alike.{alike-local}

-- ---- time

pub shape-later : (n : ℕ) (w : World) → SameShape w (later n w)
unfolding later stack_at pair_at
shape-later n w = record { lives = λ p. refl; pairs = λ k. refl; ordered = λ o. o; pairs_ordered = λ o. o }

pub alike-later : {set : Cells} {v w : World} → Alike set v w → (n : ℕ) → Alike set (later n v) (later n w)
unfolding later stack_at pair_at
alike-later a n = record { clock = ap (λ c. c + n) a.clock; stacks = a.stacks; pairs = a.pairs }

-- ---- what acts in one stack

-- what is true of a world as it was, and where the event acts
pub either_acted : (P : World → Type 0) (o : Option Path) (event : Event) (w : World) → P w → ((p : Path) → P (act w p event))
    → P (acted o event w)
unfolding acted
either_acted P None event w none some = none
either_acted P (Some p) event w none some = some p

pub alike-acted : {set : Cells} {v w : World} → Alike set v w → Belongs set v → (p : Path) (event : Event) → in_stacks set p ≡ true
    → (b : Bool) → Alike set (acted (where_true b p) event v) (acted (where_true b p) event w)
unfolding acted
alike-acted a b p event inside true = alike-local a local b p event inside
alike-acted a b p event inside false = a

-- ---- the tables of the acting stack

-- no scene goes back
pub none-tables : (o : Option (SceneOf Half)) → sound_after o None ≡ true
none-tables None = refl
none-tables (Some scene) = refl
