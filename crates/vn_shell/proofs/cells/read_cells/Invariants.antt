use Rattle.std.proofs.Common.{◌≡◌, ◌==◌, length}
use Rattle.std.specs.List.{slice_split}
use Rattle.vn_shell.specs.Cells.{cells_of, comma}
use Rattle.vn_shell.proofs.CellSets.{cells_from}
use Rattle.vn_shell.proofs.cells.read_cells.Given as goal

abbrev pub invariant-loop-text : goal.invariant-loop-text
invariant-loop-text l = cells_from l.set (slice_split (λ c. c == comma) l.rest) ≡ cells_of l.word

abbrev pub decreases-loop-text : goal.decreases-loop-text
decreases-loop-text l = length l.rest
