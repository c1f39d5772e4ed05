-- A block ends at a jump, and where another one begins.
use Rattle.std.proofs.Common.{arith}
use Rattle.std.proofs.lemmas.Grind.{common_steps}
use Rattle.block_checker.proofs.checks.ends_block.Goals as goal

pub returns-else-is_jump : goal.returns-else-is_jump
returns-else-is_jump g c = grind (arith, common_steps)
