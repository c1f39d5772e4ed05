use Rattle.std.proofs.Common.{arith}
use Rattle.std.proofs.lemmas.Grind.{common_steps}
use Rattle.abs_transfer.specs.Facts.{cut_groups}
use Rattle.abs_transfer.proofs.facts.cut_groups.Goals as goal

pub returns : goal.returns
unfolding cut_groups
returns g c = grind (arith, common_steps)
