use Rattle.vn_types.proofs.FieldLaws.{reads-back, spells}
use Rattle.vn_link.specs.Frames.{ethernet_header}
use Rattle.vn_link.specs.Packets.{arp_format}
use Rattle.vn_link.proofs.FrameLaws as frame
use Rattle.vn_link.proofs.PacketLaws as packet
use Rattle.vn_link.proofs.laws.law_of_headers.Goals as goal

pub returns : goal.returns
returns c = record {
  ethernet = (spells ethernet_header frame.is_format, reads-back ethernet_header frame.is_format);
  arp = (spells arp_format packet.is_format, reads-back arp_format packet.is_format);
}
