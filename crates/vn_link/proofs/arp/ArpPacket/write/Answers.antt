use Rattle.std.proofs.Common.{ℕ, List, ◌++◌, ap, ◌∙◌, rules}
use Rattle.vn_link.specs.Packets.{arp_of}
use Rattle.vn_link.proofs.PacketLaws.{arp_of-octets, packet-fit}
use Rattle.vn_link.proofs.arp.ArpPacket.write.Goals as goal

pub returns-clause-written : goal.returns-clause-written
returns-clause-written c = search rules

pub returns-clause-read_back : goal.returns-clause-read_back
returns-clause-read_back c = λ rest.
    let sender = c.write_addresses.ensures in
    let target = c.write_addresses-2.ensures in
    ap (λ (xs : List ℕ). arp_of (xs ++ rest)) (returns-clause-written c)
    ∙ arp_of-octets c.args.self.now rest
    (packet-fit c.args.self.now c.requires.op sender.mac sender.ip target.mac target.ip)
    sender.mac target.mac c.requires.op
