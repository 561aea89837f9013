use Rattle.vn_types.specs.Interfaces.{half_id_eq}
use Rattle.vn_packets.proofs.Whole.{grows_little}
use Rattle.vn_packets.proofs.laws.law_of_counters.Goals as goal

pub returns : goal.returns
returns c = record { numbered = grows_little half_id_eq; named = grows_little }
