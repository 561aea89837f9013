-- What isolation says of a history.
use Rattle.std.specs.Prelude.{◌≡◌, List, IsTrue}
use Rattle.vn_cells.specs.declared.cell.Cells.{Cells}
use Rattle.vn_cells.specs.declared.cell.CellName.{CellName}
use Rattle.vn_cells.specs.declared.cell.CellName.TheVariants.{Stack as OfStack, Pair as OfPair}
use Rattle.vn_cells.specs.declared.event.Event.{Event}
use Rattle.vn_cells.specs.declared.world.World.{World}
use Rattle.vn_cells.specs.world.World.{stack_at, pair_at}
use Rattle.vn_cells.specs.machine.Step.{run}
use Rattle.vn_cells.specs.sets.Sets.{in_set}
use Rattle.vn_cells.specs.sets.Changed.{IsClosed, project}

-- the cell is the same in both worlds, as a whole
abbrev pub SameCell : World → World → CellName → Type 0
SameCell v w (OfStack p) = stack_at v p ≡ stack_at w p
SameCell v w (OfPair home unit) = pair_at v (home, unit) ≡ pair_at w (home, unit)

-- each cell of a closed set is that of a run of the set's own events alone
abbrev pub IsIsolated : List Event → Type 0
IsIsolated events =
    (set : Cells) → IsClosed set events → (cell : CellName) → IsTrue (in_set set cell) → SameCell (run events) (run (project set events)) cell
