use Rattle.vn_cksum.proofs.SumLaws.{two_zeros, zeros}
use Rattle.vn_cksum.proofs.laws.law_of_zero.Goals as goal

pub returns : goal.returns
returns c = record { zeros = zeros; forms = two_zeros }
