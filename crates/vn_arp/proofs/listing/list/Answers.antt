use Rattle.std.proofs.Common.{◌≤◌, length, not, ap, ◌∙◌, arith}
use Rattle.std.specs.List.{insert, position_or_len}
use Rattle.std.proofs.lemmas.List.Sums.{prefix_len-le-length}
use Rattle.vn_arp.specs.Listing.{at_before}
use Rattle.vn_arp.proofs.Order.{inserted}
use Rattle.vn_arp.proofs.listing.list.Goals as goal

pub insert-requires : goal.insert-requires
insert-requires c =
    let within : position_or_len (at_before c.args.at) c.as_slice.result.now ≤ length c.as_slice.result.now = prefix_len-le-length (λ b. not (at_before c.args.at b)) c.as_slice.result.now in
    omega (arith, c.place_for-place.ensures, c.as_slice.ensures.len)

pub returns : goal.returns
returns c =
    c.in-Ok.ensures.items
    ∙ ap (λ n. insert c.args.order.now.items n c.args.at) (c.place_for-place.ensures ∙ ap (position_or_len (at_before c.args.at)) c.as_slice.ensures.value)
    ∙ inserted c.args.at c.args.order.now.items
