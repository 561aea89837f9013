use Rattle.vn_cksum.proofs.SumLaws.{replaced}
use Rattle.vn_cksum.proofs.laws.law_of_replacement.Goals as goal

pub returns : goal.returns
returns c = replaced
