use Rattle.std.proofs.Common.{length}
use Rattle.vn_jail.specs.Tree.{path_at}
use Rattle.vn_jail.proofs.counting.+is_any_full.Given as goal

abbrev pub decreases-is_any_full : goal.decreases-is_any_full
decreases-is_any_full l = length (path_at l.jails.now l.number)
