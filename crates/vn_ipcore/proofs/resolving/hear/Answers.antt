use Rattle.std.proofs.Common.{refl}
use Rattle.vn_types.specs.declared.address.Mac.{Mac}
use Rattle.vn_packets.specs.ArpPackets.{arp_frame, reply}
use Rattle.vn_ipcore.proofs.Back.{still_there, there_then}
use Rattle.vn_ipcore.proofs.Resolved.{heard_replied, heard_silent, replaces_learnt, room_released, room_replied}
use Rattle.vn_ipcore.proofs.Sent.{half_exists, sent_own}
use Rattle.vn_ipcore.proofs.resolving.hear.Goals as goal

pub input-requires : goal.input-requires
input-requires c = record { clock = c.requires.ready.clock; armed = c.requires.ready.armed; knows = c.requires.ready.here.sound.arms c.args.sid.0 }

pub send_all-requires : goal.send_all-requires
send_all-requires c = record {
  here = still_there
      (replaces_learnt c.requires.ready.here.sound c.args.sid.0 c.args.half c.requires.ready.here.stands c.args.packet c.args.now c.on_interface-is_mine.result c.requires.known c.input.new.self c.input.new.wheel
      c.in_ok-learned.ensures.here c.in_ok-learned.ensures.knows c.in_ok-learned.ensures.others c.in_ok-learned.ensures.other_timers) c.requires.ready.here;
  room = room_released c.requires.ready.here.sound c.args.sid.0 c.args.half c.requires.ready.here.stands c.args.packet.spa c.requires.ready.counters c.in_ok-learned.learned.release c.in_ok-learned.ensures.release;
}

pub mac-requires : goal.mac-requires
mac-requires c = half_exists (there_then refl c.in_ok-send_all.ensures c.requires.ready.here)

pub send_frame-requires : goal.send_frame-requires
send_frame-requires c = record {
  here = there_then refl c.in_ok-send_all.ensures c.requires.ready.here;
  room = room_replied c.requires.ready.here.sound c.args.sid.0 c.args.half c.requires.ready.here.stands c.args.packet.spa c.requires.ready.counters c.in_ok-learned.learned.release c.in_ok-learned.ensures.release
      _ c.send_all.new.tables c.args.packet.sha refl c.in_ok-send_all.ensures;
}

pub returns-then-not-reply : goal.returns-then-not-reply
returns-then-not-reply c =
    heard_silent c.args.sid.0 c.args.half c.args.packet c.args.now c.on_interface-is_mine.result c.in_ok-learned.learned.release c.in_ok-learned.learned.reply
    c.on_interface-is_mine.ensures c.in_ok-learned.ensures.release c.in_ok-learned.ensures.reply
    (replaces_learnt c.requires.ready.here.sound c.args.sid.0 c.args.half c.requires.ready.here.stands c.args.packet c.args.now c.on_interface-is_mine.result c.requires.known c.input.new.self c.input.new.wheel
    c.in_ok-learned.ensures.here c.in_ok-learned.ensures.knows c.in_ok-learned.ensures.others c.in_ok-learned.ensures.other_timers)
    c.in_ok-send_all.ensures c.if-not-reply.true

pub returns : goal.returns
returns c =
    heard_replied c.args.sid.0 c.args.half c.args.packet c.args.now c.on_interface-is_mine.result c.in_ok-learned.learned.release c.in_ok-learned.learned.reply
    c.on_interface-is_mine.ensures c.in_ok-learned.ensures.release c.in_ok-learned.ensures.reply
    (replaces_learnt c.requires.ready.here.sound c.args.sid.0 c.args.half c.requires.ready.here.stands c.args.packet c.args.now c.on_interface-is_mine.result c.requires.known c.input.new.self c.input.new.wheel
    c.in_ok-learned.ensures.here c.in_ok-learned.ensures.knows c.in_ok-learned.ensures.others c.in_ok-learned.ensures.other_timers)
    c.in_ok-send_all.ensures c.if-not-reply.false c.send_frame.new.tables
    (sent_own (there_then refl c.in_ok-send_all.ensures c.requires.ready.here) (λ (mac : Mac). arp_frame c.args.packet.sha (reply mac c.args.packet)) c.mac.result c.mac.ensures
    c.in_ok-frame.frame c.in_ok-frame.ensures c.send_frame.ensures)
