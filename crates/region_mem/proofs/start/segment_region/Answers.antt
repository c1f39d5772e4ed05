-- What `search` finds late, or not at all.
use Rattle.std.proofs.Common.{arith}
use Rattle.std.proofs.lemmas.Grind.{common_steps}
use Rattle.region_mem.specs.Start.{segment_area, zeros}
use Rattle.region_mem.proofs.start.segment_region.Goals as goal

pub returns : goal.returns
unfolding segment_area zeros
returns g c = grind (arith, common_steps)
