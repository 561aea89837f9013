use Rattle.std.proofs.Common.{ℕ, ◌≤◌, length, Ok, ap, sym, ◌∙◌, arith}
use Rattle.vn_types.specs.Refusals.{unless}
use Rattle.vn_types.proofs.OctetNumbers.{big_from-slice, octets-slice}
use Rattle.vn_link.specs.Packets.{fields_of, packet_of}
use Rattle.vn_link.proofs.PacketLaws.{packet-of_no_refusal, read-spelled, same-packet}
use Rattle.vn_link.proofs.arp.ArpPacket.read.Goals as goal

pub returns-in-None-clause-read : goal.returns-in-None-clause-read
returns-in-None-clause-read c =
    let octets = c.args.octets.now in
    let long : 28 ≤ length octets = c.in-None.ensures.long in
    let part = λ (i n : ℕ). big_from-slice i n octets in
    ap Ok (same-packet (fields_of octets) _ _ _ _ _
    (c.read_u16.ensures ∙ part 6 2 (omega arith))
    c.mac_at.ensures
    (c.read_u32.ensures ∙ part 14 4 (omega arith))
    c.mac_at-in-None.ensures
    (c.read_u32-in-None.ensures ∙ part 24 4 (omega arith)))
    ∙ ap (λ r. unless r (packet_of octets)) c.in-None.ensures.first

pub returns-in-None-clause-grammar : goal.returns-in-None-clause-grammar
returns-in-None-clause-grammar c = packet-of_no_refusal c.args.octets.now (sym c.in-None.ensures.first)

pub returns-in-None-clause-spelled : goal.returns-in-None-clause-spelled
returns-in-None-clause-spelled c =
    read-spelled c.args.octets.now _ (octets-slice c.args.octets.now c.type_inv.octets) (sym (returns-in-None-clause-read c))
