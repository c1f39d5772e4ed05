use Rattle.std.proofs.Common.{refl}
use Rattle.region_mem.specs.Start.{zeros}
use Rattle.region_mem.proofs.region.Region.new.Goals as goal

pub invariant_of-result : goal.invariant_of-result
unfolding zeros
invariant_of-result g c = (c.requires, refl)
