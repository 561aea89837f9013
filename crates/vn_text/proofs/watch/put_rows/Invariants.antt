use Rattle.std.proofs.Common.{take}
use Rattle.std.specs.List.{flat_map}
use Rattle.vn_text.specs.Watches.{listed_line}
use Rattle.vn_text.proofs.Putting.{IsPut}
use Rattle.vn_text.proofs.watch.put_rows.Given as goal

abbrev pub invariant-loop-row : goal.invariant-loop-row
invariant-loop-row l = IsPut l.fn.out.items l.out.items (flat_map listed_line (take l.row-index l.rows))
