use Rattle.std.proofs.Common.{length}
use Rattle.vn_kernel.proofs.readers.+lines_left.Given as goal

abbrev pub decreases-lines_left : goal.decreases-lines_left
decreases-lines_left l = length l.readers.now
