use Rattle.std.proofs.Common.{ltb, ltb-true, ltb-false, arith, rules}
use Rattle.std.proofs.lemmas.List.Sorted.{IsPartitionPoint-from_clause, IsPartitionedBy-ltb}
use Rattle.abs_pages.proofs.Flat.{numbers_rise}
use Rattle.abs_memory.specs.Finding.{below_is}
use Rattle.abs_pages.proofs.finding.pages_below.Goals as goal

pub returns-clause-value : goal.returns-clause-value
returns-clause-value c =
    let pages = c.args.pages.now in
    let parted = IsPartitionedBy-ltb (λ page. page.number) pages c.args.number (numbers_rise 0 pages c.requires) in
    let point = IsPartitionPoint-from_clause (λ page. ltb page.number c.args.number) pages _ c.partition_point.ensures.partitioned parted (λ a r q k. search rules) in
    below_is (λ page. page.number) pages c.args.number c.partition_point.result c.partition_point.ensures.bound
    (λ i d h. ltb-true _ _ (point.0 i d (omega arith) h)) (λ i d h l. ltb-false _ _ (point.1 i d h l))
