use Rattle.std.proofs.Common.{leb, rules, arith}
use Rattle.std.proofs.lemmas.Bool.{leb-true, leb-false}
use Rattle.std.proofs.lemmas.List.Sorted.{IsPartitionPoint-from_clause}
use Rattle.vn_epair.specs.Line.{rank}
use Rattle.vn_epair.proofs.Order.{partitioned}
use Rattle.vn_epair.proofs.line.count_behind.Goals as goal

pub returns-clause-behind : goal.returns-clause-behind
returns-clause-behind c = λ k d lt.
    let p = IsPartitionPoint-from_clause (λ e. leb c.args.place (rank e)) c.args.listed.now _ c.partition_point.ensures.partitioned (partitioned rank c.args.listed.now c.args.place c.requires) (λ a r f k. search rules) in
    leb-true c.args.place _ (p.0 k d (omega arith) lt)

pub returns-clause-before : goal.returns-clause-before
returns-clause-before c = λ k d le within.
    let p = IsPartitionPoint-from_clause (λ e. leb c.args.place (rank e)) c.args.listed.now _ c.partition_point.ensures.partitioned (partitioned rank c.args.listed.now c.args.place c.requires) (λ a r f k. search rules) in
    leb-false c.args.place _ (p.1 k d le within)
