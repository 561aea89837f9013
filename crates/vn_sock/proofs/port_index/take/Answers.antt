use Rattle.std.proofs.Common.{◌≡◌, ap, ◌∙◌, rules, tests, arith, length, vec_len}
use Rattle.std.proofs.lemmas.List.Sorted.{IsPartitionPoint-from_clause}
use Rattle.vn_sock.specs.Ports.{are_ordered, has}
use Rattle.vn_sock.proofs.PortOrder.{before, before-partitioned, cut, taken-has, taken-ordered, taken-within}
use Rattle.vn_sock.proofs.port_index.take.Goals as goal

pub remove-requires : goal.remove-requires
remove-requires c =
    let sides = cut (before c.args.bound) c.deref.result.now c.args.items.now.items c.partition_point-at.result c.deref.ensures.value c.partition_point-at.ensures.bound
    (IsPartitionPoint-from_clause (before c.args.bound) c.deref.result.now c.partition_point-at.result c.partition_point-at.ensures.partitioned
    (before-partitioned c.args.bound c.deref.result.now (ap are_ordered c.deref.ensures.value ∙ c.requires.ordered)) (λ a r f k. search (rules, tests))) in
    let less = taken-within c.args.bound c.args.items.now.items c.partition_point-at.result c.requires.ordered sides.0 sides.1 c.requires.there in
    let same : length c.deref.result.now ≡ length c.args.items.now.items = ap length c.deref.ensures.value in
    let len : length c.deref.result.now ≡ vec_len c.args.items.now = c.deref.ensures.len in
    omega (arith, less)

pub returns-clause-ordered : goal.returns-clause-ordered
returns-clause-ordered c =
    let sides = cut (before c.args.bound) c.deref.result.now c.args.items.now.items c.partition_point-at.result c.deref.ensures.value c.partition_point-at.ensures.bound
    (IsPartitionPoint-from_clause (before c.args.bound) c.deref.result.now c.partition_point-at.result c.partition_point-at.ensures.partitioned
    (before-partitioned c.args.bound c.deref.result.now (ap are_ordered c.deref.ensures.value ∙ c.requires.ordered)) (λ a r f k. search (rules, tests))) in
    ap are_ordered c.remove.ensures.items
    ∙ taken-ordered c.args.bound c.args.items.now.items c.partition_point-at.result c.requires.ordered sides.0 sides.1 c.requires.there

pub returns-clause-taken : goal.returns-clause-taken
returns-clause-taken c = λ q k.
    let sides = cut (before c.args.bound) c.deref.result.now c.args.items.now.items c.partition_point-at.result c.deref.ensures.value c.partition_point-at.ensures.bound
    (IsPartitionPoint-from_clause (before c.args.bound) c.deref.result.now c.partition_point-at.result c.partition_point-at.ensures.partitioned
    (before-partitioned c.args.bound c.deref.result.now (ap are_ordered c.deref.ensures.value ∙ c.requires.ordered)) (λ a r f k. search (rules, tests))) in
    ap (has q k) c.remove.ensures.items
    ∙ taken-has c.args.bound c.args.items.now.items c.partition_point-at.result c.requires.ordered sides.0 sides.1 c.requires.there q k
