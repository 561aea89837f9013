use Rattle.vn_laws.proofs.pairs.Lowest.{lowest-free}
use Rattle.vn_laws.proofs.removal.law_of_lowest_unit.Goals as goal

pub returns : goal.returns
returns c = lowest-free
