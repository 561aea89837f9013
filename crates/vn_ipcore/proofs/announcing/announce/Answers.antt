use Rattle.vn_ipcore.proofs.Announced.{room_for_one, told}
use Rattle.vn_ipcore.proofs.announcing.announce.Goals as goal

pub send_frame-requires : goal.send_frame-requires
send_frame-requires c = record { here = c.requires.here; room = room_for_one c.args.tables.now c.args.sid.0 c.requires.counters }

pub returns-clause-announced : goal.returns-clause-announced
returns-clause-announced c = told c.requires.here c.args.ip c.mac.result c.mac.ensures c.in_ok-frame.frame c.in_ok-frame.ensures c.send_frame.ensures
