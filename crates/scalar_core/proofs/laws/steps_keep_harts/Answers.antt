-- By cases on the instruction, in `specs/StateLemmas.antt`.
use Rattle.scalar_core.specs.StateLemmas.{scalar_step-is_hart}
use Rattle.scalar_core.proofs.laws.steps_keep_harts.Goals as goal

pub returns : goal.returns
returns c = scalar_step-is_hart
