use Rattle.vn_link.proofs.PacketLaws.{packet-of_no_refusal, no_refusal-of_packet}
use Rattle.vn_link.proofs.laws.law_of_refusal.Goals as goal

pub returns : goal.returns
returns c = λ octets. (packet-of_no_refusal octets, no_refusal-of_packet octets)
