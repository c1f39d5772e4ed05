use Rattle.std.proofs.Common.{arith}
use Rattle.std.proofs.lemmas.Grind.{common_steps}
use Rattle.cert_maker.specs.Loops.{is_arithmetic}
use Rattle.cert_maker.proofs.instructions.is_arithmetic.Goals as goal

pub returns-then-writes_elements : goal.returns-then-writes_elements
unfolding is_arithmetic
returns-then-writes_elements c = grind (arith, common_steps)
