-- No block is entered at EXIT.
use Rattle.std.proofs.Common.{arith}
use Rattle.std.proofs.lemmas.Grind.{common_steps}
use Rattle.block_checker.specs.Passes.{block_for}
use Rattle.block_checker.proofs.checks.block_for.Goals as goal

pub returns-in-Some-eq4294967280 : goal.returns-in-Some-eq4294967280
unfolding block_for
returns-in-Some-eq4294967280 g c = grind (arith, common_steps)
