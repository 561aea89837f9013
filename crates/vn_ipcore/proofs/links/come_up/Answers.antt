use Rattle.std.proofs.Common.{true, Some, refl}
use Rattle.vn_types.specs.declared.interface.IfOf.TheVariants.{Half}
use Rattle.vn_types.specs.Interfaces.{half_id_eq}
use Rattle.vn_arp.proofs.Edits.{for_ok}
use Rattle.vn_packets.specs.AddressLinks.{up_rule}
use Rattle.vn_ipcore.specs.Scenes.{Replaces, scene_of}
use Rattle.vn_ipcore.proofs.Up.{replaces_by_same, replaces_by_up, set_there}
use Rattle.vn_ipcore.proofs.links.come_up.Goals as goal

pub announce_all-requires-clause-here : goal.announce_all-requires-clause-here
announce_all-requires-clause-here c =
    set_there c.requires.sound c.args.sid.0 c.args.half c.requires.stands c.set_up.new.self true c.set_up.ensures.up c.set_up.ensures.others c.set_up.ensures.numbers

pub returns-then-was_up : goal.returns-then-was_up
returns-then-was_up c =
    replaces_by_same c.requires.sound c.args.sid.0 c.args.half c.requires.stands c.set_up.new.self true c.set_up.ensures.up c.set_up.ensures.others c.set_up.ensures.numbers
    refl c.is_up-was_up.result c.is_up-was_up.ensures c.if-was_up.true

pub returns : goal.returns
returns c =
    let t = c.args.tables.now in
    for_ok _ (Replaces c.args.sid.0 (up_rule half_id_eq (Some (Half c.args.half)) (scene_of t c.args.sid.0)).otherwise.left t c.announce_all.new.tables) c.announce_all.result
    (replaces_by_up c.requires.sound c.args.sid.0 c.args.half c.requires.stands c.set_up.new.self true c.set_up.ensures.up c.set_up.ensures.others c.set_up.ensures.numbers
    refl c.is_up-was_up.result c.is_up-was_up.ensures c.if-was_up.false c.announce_all.new.tables)
    c.announce_all.ensures

pub announce_all-requires-clause-counters : goal.announce_all-requires-clause-counters
announce_all-requires-clause-counters c = c.requires.counters
