use Rattle.std.proofs.Common.{arith, sym, ◌∙◌}
use Rattle.vn_kernel.proofs.Sections.{skipped}
use Rattle.vn_kernel.proofs.transcripts.sections_of.Goals as goal

pub loop-path-preserved : goal.loop-path-preserved
loop-path-preserved c = c.loop-path.invariant ∙ sym (skipped c.loop-path.yielded (c.in-Some.path, c.in-Some.entries) (grind (arith, c.is_empty.ensures, c.if-not-is_empty.false)))
