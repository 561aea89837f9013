use Rattle.std.proofs.Common.{length}
use Rattle.vn_kernel.proofs.readers.+take_line.Given as goal

abbrev pub decreases-take_line : goal.decreases-take_line
decreases-take_line l = length l.readers.now
