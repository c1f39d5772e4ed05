use Rattle.std.proofs.Common.{arith}
use Rattle.std.proofs.lemmas.Grind.{common_steps}
use Rattle.check_reasons.specs.Groups.{count_text, vector_text}
use Rattle.check_reasons.proofs.groups.VectorDisplay.fmt.Goals as goal

pub returns-then-count-eq0-clause-writes : goal.returns-then-count-eq0-clause-writes
unfolding vector_text count_text
returns-then-count-eq0-clause-writes g c = grind (arith, common_steps)
