use Rattle.std.proofs.Common.{◌∙◌}
use Rattle.vn_kernel.proofs.listing.Attached.{half-row, half-there, lo0-row}
use Rattle.vn_kernel.proofs.listing.if_row.Goals as goal

pub is_up-requires : goal.is_up-requires
is_up-requires c = half-there c.requires.stack.stands c.args.sid.0 c.args.attached c.requires.attached c.in-Half.half c.in-Half.is

pub mac-requires : goal.mac-requires
mac-requires c = half-there c.requires.stack.stands c.args.sid.0 c.args.attached c.requires.attached c.in-Half.half c.in-Half.is

pub returns-in-Lo0 : goal.returns-in-Lo0
returns-in-Lo0 c =
    lo0-row c.requires.stack.stands c.args.sid.0 c.args.attached c.requires.attached c.in-Lo0.is
    c.in_ok-addrs.addrs (c.in_ok-addrs.ensures ∙ c.requires.grouped c.args.attached.what)

pub returns-in-Half : goal.returns-in-Half
returns-in-Half c =
    half-row c.requires.stack.stands c.args.sid.0 c.args.attached c.requires.attached c.in-Half.half c.in-Half.is
    c.in_ok-addrs.addrs (c.in_ok-addrs.ensures ∙ c.requires.grouped c.args.attached.what)
    c.is_up.result c.mac.result c.is_up.ensures c.mac.ensures
