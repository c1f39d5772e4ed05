use Rattle.std.proofs.Common.{arith}
use Rattle.scalar_core.specs.Step.{jalr_step}
use Rattle.scalar_core.proofs.jumps.jalr.Goals as goal

pub returns : goal.returns
unfolding jalr_step
returns c = grind arith
