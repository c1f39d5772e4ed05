use Rattle.std.proofs.Common.{arith}
use Rattle.std.proofs.lemmas.Grind.{common_steps}
use Rattle.region_mem.specs.Areas.{spans, admits}
use Rattle.region_mem.proofs.region.Region.admits.Goals as goal

pub returns-then-address-n-clause-value : goal.returns-then-address-n-clause-value
unfolding spans admits
returns-then-address-n-clause-value g c = grind (arith, common_steps)
