use Rattle.std.proofs.Common.{arith}
use Rattle.std.proofs.lemmas.Grind.{common_steps}
use Rattle.block_checker.specs.Passes.{edges_pass}
use Rattle.block_checker.proofs.checks.edges_pass.Goals as goal

pub returns-clause-value : goal.returns-clause-value
unfolding edges_pass
returns-clause-value g c = grind (arith, common_steps)

pub returns-in_err-possible_passes-clause-value : goal.returns-in_err-possible_passes-clause-value
unfolding edges_pass
returns-in_err-possible_passes-clause-value g c = grind (arith, common_steps)
