-- A way that is refused is the answer.
use Rattle.std.proofs.Common.{arith}
use Rattle.std.proofs.lemmas.Grind.{common_steps}
use Rattle.block_checker.specs.Explained.{if_refused}
use Rattle.block_checker.proofs.refused.refused_when.Goals as goal

pub returns-in-Err : goal.returns-in-Err
unfolding if_refused
returns-in-Err g c = grind (arith, common_steps)
