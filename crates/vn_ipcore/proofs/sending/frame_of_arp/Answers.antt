use Rattle.std.proofs.Common.{◌≡◌, IfOk, subst}
use Rattle.vn_packets.specs.Datagrams.{arp_type, frame_with}
use Rattle.vn_ipcore.proofs.sending.frame_of_arp.Goals as goal

pub returns : goal.returns
returns c =
    subst (λ octets. IfOk c.frame_of.result (λ frame. frame ≡ frame_with c.args.to c.args.packet.sha arp_type octets))
    c.write.ensures.written c.frame_of.ensures
