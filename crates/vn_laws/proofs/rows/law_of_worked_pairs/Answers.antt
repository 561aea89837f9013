use Rattle.vn_laws.proofs.PairTexts.{two_pairs_is, taken_is, removed_is, lent_is, home_is}
use Rattle.vn_laws.proofs.rows.law_of_worked_pairs.Goals as goal

pub returns : goal.returns
returns c = record { two_pairs = two_pairs_is; taken = taken_is; removed = removed_is; lent = lent_is; home = home_is }
