use Rattle.std.proofs.Common.{ap, ◌∙◌, rules, tests}
use Rattle.std.proofs.lemmas.List.Sorted.{IsPartitionPoint-from_clause}
use Rattle.vn_sock.specs.Ports.{are_ordered, has}
use Rattle.vn_sock.proofs.PortOrder.{before, before-partitioned, cut, inserted, put-has, put-ordered}
use Rattle.vn_sock.proofs.port_index.put.Goals as goal

pub returns-clause-ordered : goal.returns-clause-ordered
returns-clause-ordered c =
    let sides = cut (before c.args.bound) c.deref.result.now c.args.items.now.items c.partition_point-at.result c.deref.ensures.value c.partition_point-at.ensures.bound
    (IsPartitionPoint-from_clause (before c.args.bound) c.deref.result.now c.partition_point-at.result c.partition_point-at.ensures.partitioned
    (before-partitioned c.args.bound c.deref.result.now (ap are_ordered c.deref.ensures.value ∙ c.requires.ordered)) (λ a r f k. search (rules, tests))) in
    ap are_ordered (inserted c.insert.result _ _ _ (c.insert.ensures.succeeds c.requires.room) c.insert.ensures.items)
    ∙ put-ordered c.args.bound c.args.items.now.items c.partition_point-at.result c.requires.ordered sides.0 sides.1 c.requires.absent

pub returns-clause-put : goal.returns-clause-put
returns-clause-put c = λ q k.
    ap (has q k) (inserted c.insert.result _ _ _ (c.insert.ensures.succeeds c.requires.room) c.insert.ensures.items)
    ∙ put-has c.args.bound c.args.items.now.items c.partition_point-at.result q k
