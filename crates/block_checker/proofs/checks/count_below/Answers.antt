-- Blocks rise, so that the search meets its condition.
use Rattle.std.proofs.Common.{rules, ltb}
use Rattle.std.proofs.lemmas.List.Sorted.{IsPartitionPoint-from_clause, IsPartitionedBy-ltb}
use Rattle.block_checker.proofs.checks.count_below.Goals as goal

pub returns-clause-split : goal.returns-clause-split
returns-clause-split c =
    let blocks = c.args.blocks.now in
    IsPartitionPoint-from_clause (λ block. ltb block.start c.args.address) blocks _ c.partition_point.ensures.partitioned
    (IsPartitionedBy-ltb (λ block. block.start) blocks c.args.address c.requires) (λ a r f' k. search rules)
