use Rattle.vn_laws.proofs.growth.Runs.{all_small}
use Rattle.vn_laws.proofs.runs.law_of_growth.Goals as goal

pub returns : goal.returns
returns c = all_small
