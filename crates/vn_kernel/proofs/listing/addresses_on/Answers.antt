use Rattle.std.proofs.Common.{◌∙◌, arith}
use Rattle.std.proofs.lemmas.List.{take_all}
use Rattle.vn_kernel.proofs.listing.Grouped.{kept-absent, kept-there}
use Rattle.vn_kernel.proofs.listing.addresses_on.Goals as goal

pub returns-in_default : goal.returns-in_default
returns-in_default c = c.new.ensures ∙ kept-absent c.if_number.result c.args.on c.args.groups.now.entries c.if_number.ensures c.in_default.ensures.value

pub returns : goal.returns
returns c =
    c.loop-address.invariant
    ∙ take_all c.loop-address.address-index c.as_slice-address-items.result.now (let end = c.loop-address-test.false in omega arith)
    ∙ c.as_slice-address-items.ensures
    ∙ kept-there c.if_number.result c.args.on c.args.groups.now.entries c.in-Some.group.now c.if_number.ensures c.in-Some.ensures.value
