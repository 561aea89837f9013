use Rattle.std.proofs.Common.{cond, sym, ap, ◌∙◌}
use Rattle.vn_types.specs.Interfaces.{half_id_eq}
use Rattle.vn_packets.specs.ArpPackets.{announced}
use Rattle.vn_ipcore.specs.Announcing.{announced_of}
use Rattle.vn_ipcore.specs.Scenes.{scene_of}
use Rattle.vn_ipcore.proofs.Announced.{told}
use Rattle.vn_ipcore.proofs.Back.{replaces_as, replaces_same}
use Rattle.vn_ipcore.proofs.links.announce_own.Goals as goal

pub returns-then-not-same_interface : goal.returns-then-not-same_interface
returns-then-not-same_interface c =
    let s = scene_of c.args.tables.now c.args.sid.0 in
    replaces_as s (announced_of c.args.half c.args.addr s)
    (ap (λ b. cond b (announced half_id_eq c.args.half c.args.addr.ip s) s) (sym c.if-not-same_interface.true ∙ c.same_interface.ensures)) (replaces_same c.requires.here.sound c.args.sid.0)

pub returns : goal.returns
returns c =
    let s = scene_of c.args.tables.now c.args.sid.0 in
    replaces_as (announced half_id_eq c.args.half c.args.addr.ip s) (announced_of c.args.half c.args.addr s)
    (ap (λ b. cond b (announced half_id_eq c.args.half c.args.addr.ip s) s) (sym c.if-not-same_interface.false ∙ c.same_interface.ensures))
    (told c.requires.here c.args.addr.ip c.mac.result c.mac.ensures c.in_ok-frame.frame c.in_ok-frame.ensures c.send_frame.ensures)
