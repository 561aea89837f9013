use Rattle.std.proofs.Common.{◌≡◌, ◌+◌, length, sum}
use Rattle.vn_cksum.specs.Sums.{words_of}
use Rattle.vn_cksum.proofs.sum.total.Given as goal

abbrev pub invariant-loop-rest : goal.invariant-loop-rest
invariant-loop-rest l = l.total + sum (words_of l.rest) ≡ sum (words_of l.octets)

abbrev pub decreases-loop-rest : goal.decreases-loop-rest
decreases-loop-rest l = length l.rest
