use Rattle.vn_cksum.proofs.SumLaws.{completed}
use Rattle.vn_cksum.proofs.laws.law_of_complement.Goals as goal

pub returns : goal.returns
returns c = completed
