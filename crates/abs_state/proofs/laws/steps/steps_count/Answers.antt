use Rattle.abs_state.proofs.Growth.{after_counts}
use Rattle.abs_state.proofs.laws.steps.steps_count.Goals as goal

pub returns : goal.returns
returns c = after_counts
