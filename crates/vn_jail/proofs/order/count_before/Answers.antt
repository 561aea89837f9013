use Rattle.std.proofs.Common.{rules, arith}
use Rattle.std.specs.Ordering.{is_lt}
use Rattle.std.proofs.lemmas.List.Sorted.{IsPartitionPoint-from_clause}
use Rattle.vn_types.specs.Paths.{path_cmp}
use Rattle.vn_jail.specs.Tree.{path_at}
use Rattle.vn_jail.proofs.Orders.{partitioned}
use Rattle.vn_jail.proofs.order.count_before.Goals as goal

pub returns-clause-before : goal.returns-clause-before
returns-clause-before c = λ k d lt.
    let p = IsPartitionPoint-from_clause (λ s. is_lt (path_cmp (path_at c.args.jails.now s.0) c.args.path.now)) c.args.order.now _ c.partition_point.ensures.partitioned (partitioned c.args.jails.now c.args.order.now c.args.path.now c.requires.rises) (λ a r f k. search rules) in
    p.0 k d (omega arith) lt

pub returns-clause-behind : goal.returns-clause-behind
returns-clause-behind c = λ k d le within.
    let p = IsPartitionPoint-from_clause (λ s. is_lt (path_cmp (path_at c.args.jails.now s.0) c.args.path.now)) c.args.order.now _ c.partition_point.ensures.partitioned (partitioned c.args.jails.now c.args.order.now c.args.path.now c.requires.rises) (λ a r f k. search rules) in
    p.1 k d le within
