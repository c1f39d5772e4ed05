-- Eight digits of base 16 at most.
use Rattle.std.proofs.Common.{arith}
use Rattle.std.proofs.lemmas.Grind.{common_steps}
use Rattle.monitor.proofs.numbers.address.Goals as goal

pub returns : goal.returns
returns c = grind (arith, common_steps)
