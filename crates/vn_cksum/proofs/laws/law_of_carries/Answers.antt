use Rattle.vn_cksum.proofs.SumLaws.{sixteen_bits}
use Rattle.vn_cksum.proofs.Totals.{sum_words-total}
use Rattle.vn_cksum.proofs.laws.law_of_carries.Goals as goal

pub returns : goal.returns
returns c = record { bits = sixteen_bits; deferred = sum_words-total }
