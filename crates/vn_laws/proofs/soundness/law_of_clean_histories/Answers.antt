use Rattle.vn_laws.proofs.Cleaned.{each_prefix}
use Rattle.vn_laws.proofs.soundness.law_of_clean_histories.Goals as goal

pub returns : goal.returns
returns c = each_prefix
