use Rattle.vector_core.proofs.KeptSteps.{steps_kept}
use Rattle.vector_core.proofs.laws.steps_keep_vectors.Goals as goal

pub returns : goal.returns
returns c = steps_kept
