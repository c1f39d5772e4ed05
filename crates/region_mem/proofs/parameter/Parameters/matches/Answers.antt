-- The three tests in their order.
use Rattle.std.proofs.Common.{arith}
use Rattle.std.proofs.lemmas.Grind.{common_steps}
use Rattle.region_mem.specs.Parameter.{argument_error, refused_by}
use Rattle.region_mem.proofs.parameter.Parameters.matches.Goals as goal

pub returns-clause-meaning : goal.returns-clause-meaning
unfolding argument_error refused_by
returns-clause-meaning g c = grind (arith, common_steps)
