use Rattle.vn_packets.proofs.Whole.{same_renamed}
use Rattle.vn_packets.proofs.laws.law_of_names.Goals as goal

pub returns : goal.returns
returns c = same_renamed
