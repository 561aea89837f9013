use Rattle.std.proofs.Common.{ap, sym, ◌∙◌}
use Rattle.vn_cksum.specs.Sums.{folded}
use Rattle.vn_types.proofs.OctetNumbers.{octets-slice}
use Rattle.vn_cksum.proofs.Totals.{sum_of-total}
use Rattle.vn_cksum.proofs.sum.sum16.Goals as goal

pub returns : goal.returns
returns c = c.fold.ensures ∙ ap folded c.total.ensures.words ∙ sym (sum_of-total c.args.octets.now (octets-slice c.args.octets.now c.type_inv.octets))
