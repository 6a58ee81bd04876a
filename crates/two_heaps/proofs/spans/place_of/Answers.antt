use Rattle.std.proofs.Common.{ltb, rules}
use Rattle.std.proofs.lemmas.List.Sorted.{IsPartitionedBy-ltb, IsPartitionPoint-from_clause}
use Rattle.two_heaps.proofs.Places.{rises_by, below_count}
use Rattle.two_heaps.proofs.spans.place_of.Goals as goal

pub returns : goal.returns
returns c =
    let parted = IsPartitionedBy-ltb (λ span. span.at) c.args.spans.now c.args.at (rises_by 0 0 c.args.spans.now c.requires) in
    let point = IsPartitionPoint-from_clause (λ span. ltb span.at c.args.at) _ _ c.partition_point.ensures.partitioned parted (λ a r q k. search rules) in
    below_count 0 0 c.args.at c.args.spans.now c.partition_point.result c.requires c.partition_point.ensures.bound point.0 point.1
