use Rattle.std.proofs.Common.{arith}
use Rattle.std.proofs.lemmas.Grind.{common_steps}
use Rattle.region_mem.proofs.parameter.ArgErrorDisplay.fmt.Goals as goal

pub returns-in-ScalarOutOfInterval-clause-writes :
    goal.returns-in-ScalarOutOfInterval-clause-writes
returns-in-ScalarOutOfInterval-clause-writes g c = grind (arith, common_steps)
