use Rattle.std.proofs.Common.{arith}
use Rattle.std.proofs.lemmas.Grind.{common_steps}
use Rattle.vector_core.specs.Operands.{results_written}
use Rattle.vector_core.proofs.operands.write_results.Goals as goal

pub returns-then-results-setup : goal.returns-then-results-setup
unfolding results_written
returns-then-results-setup g c = grind (arith, common_steps)
