use Rattle.vn_types.specs.Interfaces.{half_id_eq}
use Rattle.vn_types.proofs.InterfaceNames.{half_id_eq-Decides}
use Rattle.vn_packets.proofs.Whole.{lowers_weight}
use Rattle.vn_packets.proofs.laws.law_of_falling_weight.Goals as goal

pub returns : goal.returns
returns c = record { numbered = lowers_weight half_id_eq half_id_eq-Decides; named = lowers_weight }
