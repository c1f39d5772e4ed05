use Rattle.std.proofs.Common.{arith}
use Rattle.scalar_core.proofs.laws.exit_in_numbers.Goals as goal

pub returns : goal.returns
returns c = grind arith
