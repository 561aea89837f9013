use Rattle.std.proofs.Common.{refl}
use Rattle.vn_cells.specs.machine.Step.{run_from}
use Rattle.vn_laws.proofs.RowTexts.{no_line_runs, empty_is, texts_are}
use Rattle.vn_laws.proofs.rows.law_of_worked_rows.Goals as goal

pub returns : goal.returns
unfolding run_from
returns c =
    let (twice, no_parent_no_room, two_children, grandchild) = texts_are in
    record { no_line = no_line_runs; opening = refl; empty = empty_is; twice = twice; no_parent_no_room = no_parent_no_room; two_children = two_children; grandchild = grandchild }
