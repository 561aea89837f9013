use Rattle.vn_laws.proofs.versions.Kept.{kept_is}
use Rattle.vn_laws.proofs.readers.law_of_kept_versions.Goals as goal

pub returns : goal.returns
returns c = kept_is
