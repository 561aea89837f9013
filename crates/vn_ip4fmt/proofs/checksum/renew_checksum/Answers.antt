use Rattle.std.proofs.Common.{◌≡◌, ap, ◌∙◌}
use Rattle.vn_cksum.specs.Sums.{sum_of}
use Rattle.vn_types.proofs.OctetNumbers.{octets-slice}
use Rattle.vn_ip4fmt.specs.Checksum.{renewed}
use Rattle.vn_ip4fmt.proofs.Renewing.{octets-round, renewed-sum, written-twice}
use Rattle.vn_ip4fmt.proofs.checksum.renew_checksum.Goals as goal

pub returns-clause-sums_up : goal.returns-clause-sums_up
returns-clause-sums_up c =
    let old = c.args.header.now in
    let new = c.put_checksum-2.new.header in
    let is : new ≡ renewed old = c.put_checksum-2.ensures ∙ (rw (c.sum16-sum.ensures, c.put_checksum.ensures) (written-twice 0 _ old c.requires.long_enough)) in
    let round = octets-round _ old new c.requires.long_enough (octets-slice new c.type_inv.header) is in
    ap sum_of is ∙ renewed-sum old c.requires.long_enough round.0 round.1
