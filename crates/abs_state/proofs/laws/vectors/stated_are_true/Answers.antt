use Rattle.abs_state.proofs.StatedSteps.{steps_stated}
use Rattle.abs_state.proofs.laws.vectors.stated_are_true.Goals as goal

pub returns : goal.returns
returns c = steps_stated
