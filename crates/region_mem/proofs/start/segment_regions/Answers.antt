use Rattle.std.proofs.Common.{arith}
use Rattle.region_mem.proofs.Order.{insert_areas_all, insert_areas_more}
use Rattle.region_mem.proofs.start.segment_regions.Goals as goal

pub loop-segment-preserved : goal.loop-segment-preserved
loop-segment-preserved g c = grind (arith, insert_areas_more, insert_areas_all)

pub returns-clause-items : goal.returns-clause-items
returns-clause-items g c = grind (arith, insert_areas_more, insert_areas_all)
