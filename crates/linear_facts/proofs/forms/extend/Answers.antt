-- Where there is no room the list would be longer than it may be.
use Rattle.std.proofs.Common.{arith}
use Rattle.std.proofs.lemmas.Grind.{common_steps}
use Rattle.linear_facts.proofs.forms.extend.Goals as goal

pub returns-clause-full : goal.returns-clause-full
returns-clause-full g c = grind (arith, common_steps)
