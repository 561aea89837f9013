use Rattle.std.proofs.Common.{◌++◌, take, arith}
use Rattle.std.proofs.KnownBytes.{Consumes-trans}
use Rattle.std.proofs.lemmas.Grind.{common_steps}
use Rattle.vn_io.proofs.whole.read_to_end.Goals as goal

-- what was collected, and then what the last read took
pub returns-then-is_err-clause-bounded : goal.returns-then-is_err-clause-bounded
returns-then-is_err-clause-bounded g c = (
  c.loop-buffer.octets.items ++ take c.in-Count.taken c.read.new.into,
  Consumes-trans _ _ _ _ _ c.loop-buffer.invariant.taken c.in-Count.ensures.octets,
  grind (arith, common_steps),
)
