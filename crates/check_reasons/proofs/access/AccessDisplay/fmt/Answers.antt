use Rattle.std.proofs.Common.{arith}
use Rattle.std.proofs.lemmas.Grind.{common_steps}
use Rattle.check_reasons.specs.Access.{access_text, wanted_lines}
use Rattle.check_reasons.proofs.access.AccessDisplay.fmt.Goals as goal

pub returns-clause-writes : goal.returns-clause-writes
unfolding access_text wanted_lines
returns-clause-writes g c = grind (arith, common_steps)
