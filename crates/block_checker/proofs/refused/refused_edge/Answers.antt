-- The way where a branch is taken comes first.
use Rattle.std.proofs.Common.{arith}
use Rattle.std.proofs.lemmas.Grind.{common_steps}
use Rattle.block_checker.specs.Explained.{refused_edge}
use Rattle.block_checker.proofs.refused.refused_edge.Goals as goal

pub returns-in-None : goal.returns-in-None
unfolding refused_edge
returns-in-None g c = grind (arith, common_steps)
