use Rattle.std.proofs.Common.{refl}
use Rattle.vn_rules.specs.Networks.{lies_in, network_of}
use Rattle.vn_kernel.proofs.construction.add_route.Goals as goal

pub link-requires-clause-network : goal.link-requires-clause-network
unfolding lies_in network_of
link-requires-clause-network c = refl
