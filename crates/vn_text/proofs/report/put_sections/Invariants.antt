use Rattle.std.proofs.Common.{take}
use Rattle.std.specs.List.{flat_map}
use Rattle.vn_text.specs.Whole.{chosen_text, given}
use Rattle.vn_text.proofs.Putting.{IsPut}
use Rattle.vn_text.proofs.report.put_sections.Given as goal

abbrev pub invariant-loop-section : goal.invariant-loop-section
invariant-loop-section l = IsPut l.fn.out.items l.out.items (flat_map (chosen_text (given l.only)) (take l.section-index l.sections))
