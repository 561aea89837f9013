use Rattle.std.proofs.Common.{ap, ◌∙◌}
use Rattle.std.proofs.lemmas.Bool.{le-leb}
use Rattle.vn_inaddr.specs.Stacks.{of as addresses_of}
use Rattle.vn_route.specs.Stacks.{of as routes_of}
use Rattle.vn_rules.specs.Networks.{is_network}
use Rattle.vn_rules.proofs.NetworkLaws.{is_network-of}
use Rattle.vn_vmove.proofs.Founded.{route_goes, route_stays}
use Rattle.vn_vmove.proofs.address.unlink.Goals as goal

pub unlink-requires : goal.unlink-requires
unlink-requires c = ap is_network c.prefix-to.ensures ∙ is_network-of c.args.addr.ip c.args.addr.len (le-leb c.args.addr.len 32 c.requires.length)

pub returns-then-has_network-clause-left : goal.returns-then-has_network-clause-left
returns-then-has_network-clause-left c =
    route_stays c.args.addr c.prefix-to.result c.prefix-to.ensures (addresses_of c.args.addrs.now c.args.sid.0) (routes_of c.args.routes.now c.args.sid.0) c.if-has_network.ensures

pub returns-clause-left : goal.returns-clause-left
returns-clause-left c =
    route_goes c.args.addr c.prefix-to.result c.prefix-to.ensures (addresses_of c.args.addrs.now c.args.sid.0) (routes_of c.args.routes.now c.args.sid.0) _ c.if-has_network.ensures c.unlink.ensures.unlinked
