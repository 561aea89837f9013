use Rattle.vn_cksum.proofs.SumLaws.{no_order}
use Rattle.vn_cksum.proofs.laws.law_of_order.Goals as goal

pub returns : goal.returns
returns c = no_order
