use Rattle.std.proofs.Common.{◌<◌, ◌^◌, arith, rules, ap}
use Rattle.vn_rules.specs.Networks.{network_of, directed_broadcast}
use Rattle.vn_rules.proofs.NetworkLaws.{directed_broadcast-below}
use Rattle.vn_rules.proofs.network.directed_broadcast.Goals as goal

pub overflow_cast-result : goal.overflow_cast-result
unfolding directed_broadcast
overflow_cast-result c =
    let network = ap (λ n. n.0) c.network_of-network.ensures in
    let small : c.network_of-network.result.0 < 2 ^ 32 = search rules in
    let last : (network_of c.args.ip c.args.len).0 < 2 ^ 32 = omega arith in
    omega (arith, directed_broadcast-below c.args.ip c.args.len last)
