use Rattle.std.proofs.Common.{◌≡◌, ◌+◌, ap, sym, ◌∙◌, sum}
use Rattle.vn_cksum.specs.Sums.{words_of, folded}
use Rattle.vn_types.proofs.OctetNumbers.{octets-slice}
use Rattle.vn_cksum.proofs.Totals.{sum_of-totals}
use Rattle.vn_cksum.proofs.sum.sum16_parts.Goals as goal

pub returns : goal.returns
returns c =
    let whole = sum_of-totals c.args.first.now c.args.second.now (octets-slice c.args.first.now c.type_inv.first) (octets-slice c.args.second.now c.type_inv.second) c.requires.even in
    let total : c.total.result + c.total-2.result ≡ sum (words_of c.args.first.now) + sum (words_of c.args.second.now) = cc (c.total.ensures.words, c.total-2.ensures.words) in
    c.fold.ensures ∙ ap folded total ∙ sym whole
