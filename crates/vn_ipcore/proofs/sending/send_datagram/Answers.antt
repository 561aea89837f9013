use Rattle.vn_types.specs.declared.address.Mac.{Mac}
use Rattle.vn_packets.specs.ArpPackets.{sent_datagram}
use Rattle.vn_packets.specs.Datagrams.{frame_with, ip4_type}
use Rattle.vn_ipcore.proofs.Sent.{sent_own}
use Rattle.vn_ipcore.proofs.sending.send_datagram.Goals as goal

pub returns : goal.returns
unfolding sent_datagram
returns c =
    sent_own c.requires.here (λ (mac : Mac). frame_with c.args.to mac ip4_type c.args.datagram.now) c.mac-from.result c.mac-from.ensures
    c.in_ok-frame.frame c.in_ok-frame.ensures c.send_frame.ensures
