use Rattle.std.proofs.Common.{length}
use Rattle.vn_jail.specs.Tree.{path_at}
use Rattle.vn_jail.proofs.counting.+count.Given as goal

abbrev pub decreases-count : goal.decreases-count
decreases-count l = length (path_at l.jails.now l.number)
