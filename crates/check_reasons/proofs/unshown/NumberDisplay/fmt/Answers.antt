use Rattle.std.proofs.Common.{arith}
use Rattle.std.proofs.lemmas.Grind.{common_steps}
use Rattle.check_reasons.specs.Unshown.{number_lines}
use Rattle.check_reasons.proofs.unshown.NumberDisplay.fmt.Goals as goal

pub returns-clause-writes : goal.returns-clause-writes
unfolding number_lines
returns-clause-writes g c = grind (arith, common_steps)
