use Rattle.std.proofs.Common.{arith}
use Rattle.std.proofs.lemmas.Grind.{common_steps}
use Rattle.lane_masks.specs.Permutations.{slid_up}
use Rattle.lane_masks.proofs.permutations.slide_up.Goals as goal

pub returns-then-offset-count : goal.returns-then-offset-count
unfolding slid_up
returns-then-offset-count g c = grind (arith, common_steps)
