use Rattle.std.proofs.Common.{take}
use Rattle.std.specs.List.{flat_map}
use Rattle.vn_cells.specs.texts.Text.{entry_line}
use Rattle.vn_text.proofs.Putting.{IsPut}
use Rattle.vn_text.proofs.section.put_entries.Given as goal

abbrev pub invariant-loop-entry : goal.invariant-loop-entry
invariant-loop-entry l = IsPut l.fn.out.items l.out.items (flat_map entry_line (take l.entry-index l.entries))
