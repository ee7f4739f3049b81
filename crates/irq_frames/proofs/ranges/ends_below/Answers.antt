use Rattle.std.proofs.Common.{ℕ, ltb, ltb-true, ltb-false, arith, rules}
use Rattle.std.proofs.lemmas.List.Sorted.{IsPartitionPoint-from_clause, IsPartitionedBy-ltb}
use Rattle.irq_frames.proofs.RangeLemmas.{ends_rise, below_is}
use Rattle.irq_frames.proofs.ranges.ends_below.Goals as goal

pub returns-clause-value : goal.returns-clause-value
returns-clause-value c =
    let ranges = c.args.ranges.now in
    let parted = IsPartitionedBy-ltb (λ (range : ℕ × ℕ). range.1) ranges c.args.at (ends_rise 0 65535 ranges c.requires) in
    let point = IsPartitionPoint-from_clause (λ (range : ℕ × ℕ). ltb range.1 c.args.at) ranges _ c.partition_point.ensures.partitioned parted (λ a r q k. search rules) in
    below_is ranges c.args.at c.partition_point.result c.partition_point.ensures.bound (λ i d h. ltb-true _ _ (point.0 i d (omega arith) h)) (λ i d h l. ltb-false _ _ (point.1 i d h l))
