use Rattle.std.proofs.Common.{subst, sym}
use Rattle.vn_types.specs.Interfaces.{half_id_eq}
use Rattle.vn_packets.specs.ArpPackets.{sent_datagram}
use Rattle.vn_ipcore.specs.Scenes.{Replaces, scene_of}
use Rattle.vn_ipcore.proofs.Back.{still_there}
use Rattle.vn_ipcore.proofs.Resolved.{IsSending, sending_first, sending_last, sending_more, sending_room}
use Rattle.vn_ipcore.proofs.resolving.send_all.Goals as goal

pub loop-datagram-init : goal.loop-datagram-init
loop-datagram-init c = sending_first c.requires.here.sound c.args.sid.0 c.args.half c.args.to c.args.packets c.requires.room

pub send_datagram-requires : goal.send_datagram-requires
send_datagram-requires c = record {
  here = still_there c.loop-datagram.invariant.replaces c.requires.here;
  room = sending_room c.loop-datagram.invariant c.in-Some.datagram (sym c.in-Some.ensures.first);
}

pub loop-datagram-preserved-in_ok-send_datagram : goal.loop-datagram-preserved-in_ok-send_datagram
loop-datagram-preserved-in_ok-send_datagram c =
    subst (λ left. IsSending c.args.sid.0 c.args.half c.args.to c.args.packets left c.args.tables.now c.send_datagram.new.tables) (sym c.take.ensures.rest)
    (sending_more c.loop-datagram.invariant c.send_datagram.new.tables c.in-Some.datagram (sym c.in-Some.ensures.first)
    (subst (λ d. Replaces c.args.sid.0 (sent_datagram half_id_eq c.args.half c.args.to d (scene_of c.loop-datagram.tables c.args.sid.0)) c.loop-datagram.tables c.send_datagram.new.tables)
    c.deref.ensures c.in_ok-send_datagram.ensures))

pub loop-datagram-preserved : goal.loop-datagram-preserved
loop-datagram-preserved c =
    subst (λ left. IsSending c.args.sid.0 c.args.half c.args.to c.args.packets left c.args.tables.now c.send_datagram.new.tables) (sym c.take.ensures.rest)
    (sending_more c.loop-datagram.invariant c.send_datagram.new.tables c.in-Some.datagram (sym c.in-Some.ensures.first)
    (subst (λ d. Replaces c.args.sid.0 (sent_datagram half_id_eq c.args.half c.args.to d (scene_of c.loop-datagram.tables c.args.sid.0)) c.loop-datagram.tables c.send_datagram.new.tables)
    c.deref.ensures c.in_ok-send_datagram.ensures))

pub returns : goal.returns
returns c = sending_last c.loop-datagram.invariant (sym c.in_default.ensures.first)
