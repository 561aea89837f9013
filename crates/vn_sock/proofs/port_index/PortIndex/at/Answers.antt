use Rattle.std.proofs.Common.{◌≡◌, ℕ, ◌+◌, nat_lt, nat_le, List, filter, take, drop, ap, sym, subst, ◌∙◌, rules, tests}
use Rattle.std.specs.List.Sorted.{IsPartitionedBy}
use Rattle.std.proofs.lemmas.List.Sorted.{IsPartitionPoint-from_clause}
use Rattle.vn_sock.specs.declared.port_index.Bound.{Bound}
use Rattle.vn_sock.specs.Ports.{are_ordered, is_under}
use Rattle.vn_sock.proofs.PortOrder.{cut}
use Rattle.vn_sock.proofs.PortRanges.{found-ordered, found-under, under-partitioned, upto-partitioned}
use Rattle.vn_sock.proofs.port_index.PortIndex.at.Goals as goal

pub returns-clause-under : goal.returns-clause-under
returns-clause-under c =
    let q : ℕ = c.port_number-number.result in
    let items : List Bound = c.self.inside.items.items in
    let start : ℕ = c.partition_point-start.result in
    let many : ℕ = c.partition_point-many.result in
    let rest : c.split_at.result.1.now ≡ drop start items = c.split_at.ensures.back ∙ ap (drop start) c.as_slice.ensures.value in
    let first = cut (λ (b : Bound). nat_lt b.port q) c.deref.result.now items start c.deref.ensures.value c.partition_point-start.ensures.bound
    (IsPartitionPoint-from_clause (λ (b : Bound). nat_lt b.port q) c.deref.result.now start c.partition_point-start.ensures.partitioned
    (under-partitioned q c.deref.result.now (ap are_ordered c.deref.ensures.value ∙ c.self.invariant.ordered)) (λ a r f k. search (rules, tests))) in
    let second = cut (λ (b : Bound). nat_le b.port q) c.split_at.result.1.now (drop start items) many rest c.partition_point-many.ensures.bound
    (IsPartitionPoint-from_clause (λ (b : Bound). nat_le b.port q) c.split_at.result.1.now many c.partition_point-many.ensures.partitioned
    (subst (λ xs. IsPartitionedBy (λ (b : Bound). nat_le b.port q) xs) (sym rest) (upto-partitioned q items c.self.invariant.ordered start)) (λ a r f k. search (rules, tests))) in
    c.split_at-2.ensures.front ∙ ap (take many) rest ∙ found-under q items c.self.invariant.ordered start many first.0 first.1 second.0 second.1
    ∙ ap (λ n. filter (is_under n) items) c.port_number-number.ensures ∙ ap (filter (is_under (c.args.port + 1))) c.self.view_is

pub returns-clause-ordered : goal.returns-clause-ordered
returns-clause-ordered c =
    let items : List Bound = c.self.inside.items.items in
    let rest : c.split_at.result.1.now ≡ drop c.partition_point-start.result items = c.split_at.ensures.back ∙ ap (drop c.partition_point-start.result) c.as_slice.ensures.value in
    ap are_ordered (c.split_at-2.ensures.front ∙ ap (take c.partition_point-many.result) rest)
    ∙ found-ordered items c.self.invariant.ordered c.partition_point-start.result c.partition_point-many.result
