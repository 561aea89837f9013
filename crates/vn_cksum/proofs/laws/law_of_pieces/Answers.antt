use Rattle.vn_cksum.proofs.SumLaws.{rows, stands_for}
use Rattle.vn_cksum.proofs.laws.law_of_pieces.Goals as goal

pub returns : goal.returns
returns c = record { added = rows; carried = stands_for }
