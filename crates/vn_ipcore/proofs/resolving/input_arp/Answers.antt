use Rattle.std.proofs.Common.{cond, sym, ap, ◌∙◌}
use Rattle.vn_types.specs.Interfaces.{half_id_eq}
use Rattle.vn_arp.proofs.Edits.{for_ok}
use Rattle.vn_packets.specs.declared.tally.Tally.TheVariants.{Arp}
use Rattle.vn_packets.specs.ArpPackets.{arp_heard, arp_read, arp_received}
use Rattle.vn_packets.specs.Drops.{lost}
use Rattle.vn_ipcore.specs.Scenes.{Replaces, scene_of}
use Rattle.vn_ipcore.proofs.Announced.{room_for_one}
use Rattle.vn_ipcore.proofs.Back.{replaces_as}
use Rattle.vn_ipcore.proofs.Parted.{replaces_counted}
use Rattle.vn_ipcore.proofs.Sent.{lives-where}
use Rattle.vn_ipcore.proofs.resolving.input_arp.Goals.{in_default-via-in-Ok+else-not-is_stranger, in_default-via-in_default}
use Rattle.vn_ipcore.proofs.resolving.input_arp.Goals as goal

pub count-requires-clause-fits : goal.count-requires-clause-fits
count-requires-clause-fits c = room_for_one c.args.tables.now c.args.sid.0 c.requires.counters Arp

pub returns-in-Ok : goal.returns-in-Ok
unfolding arp_received scene_of
returns-in-Ok c =
    let s = scene_of c.args.tables.now c.args.sid.0 in
    let received = arp_received half_id_eq (record { clock = c.args.now }) c.args.half c.args.octets.now s in
    let heard = arp_heard half_id_eq (record { clock = c.args.now }) c.args.half c.in-Ok.packet s in
    for_ok _ (Replaces c.args.sid.0 received c.args.tables.now c.hear.new.tables) c.hear.result
    (replaces_as heard received
    (ap (λ b. cond b (lost Arp 1 s) heard) (sym c.if-not-is_stranger.true ∙ c.is_stranger.ensures)
    ∙ ap (λ r. arp_read half_id_eq (record { clock = c.args.now }) c.args.half r s) c.in-Ok.ensures.read))
    c.hear.ensures

pub returns-in_default : goal.returns-in_default
unfolding arp_received scene_of
returns-in_default c =
    let s = scene_of c.args.tables.now c.args.sid.0 in
    replaces_as (lost Arp 1 s) (arp_received half_id_eq (record { clock = c.args.now }) c.args.half c.args.octets.now s)
    (elim c.in_default.branch [
      | in_default-via-in-Ok+else-not-is_stranger w ↦
          ap (λ b. cond b (lost Arp 1 s) (arp_heard half_id_eq (record { clock = c.args.now }) c.args.half w.in-Ok.packet s)) (sym w.if-not-is_stranger.false ∙ w.is_stranger.ensures)
          ∙ ap (λ r. arp_read half_id_eq (record { clock = c.args.now }) c.args.half r s) w.in-Ok.ensures.read
      | in_default-via-in_default w ↦ ap (λ r. arp_read half_id_eq (record { clock = c.args.now }) c.args.half r s) w.in_default.ensures.read
    ])
    (replaces_counted c.requires.here.sound c.args.sid.0 (lives-where c.requires.here.sound c.args.sid.0 c.args.half c.requires.here.stands) Arp 1 c.count.new.self c.count.ensures.counted c.count.ensures.others)
