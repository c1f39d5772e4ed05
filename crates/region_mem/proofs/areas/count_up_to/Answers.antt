-- Areas in order rise, so that the search meets its condition.
use Rattle.std.proofs.Common.{rules, leb}
use Rattle.std.proofs.lemmas.List.Sorted.{IsPartitionPoint-from_clause, IsPartitionedBy-leb}
use Rattle.region_mem.specs.SearchLemmas.{rise}
use Rattle.region_mem.proofs.areas.count_up_to.Goals as goal

pub returns-clause-split : goal.returns-clause-split
returns-clause-split g c =
    let areas = c.args.regions.now in
    IsPartitionPoint-from_clause (λ area. leb area.first c.args.address) areas _ c.partition_point.ensures.partitioned
    (IsPartitionedBy-leb (λ area. area.first) areas c.args.address (rise areas c.requires)) (λ a r f' k. search rules)
