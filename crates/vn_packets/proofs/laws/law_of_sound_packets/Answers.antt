use Rattle.vn_types.specs.Interfaces.{half_id_eq}
use Rattle.vn_types.proofs.InterfaceNames.{half_id_eq-Decides}
use Rattle.vn_packets.proofs.Whole.{stays_sound}
use Rattle.vn_packets.proofs.laws.law_of_sound_packets.Goals as goal

pub returns : goal.returns
returns c = record { numbered = stays_sound half_id_eq half_id_eq-Decides; named = stays_sound }
