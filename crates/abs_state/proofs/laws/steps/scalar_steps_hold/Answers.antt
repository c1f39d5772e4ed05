use Rattle.abs_state.proofs.StepScalars.{scalars_hold}
use Rattle.abs_state.proofs.laws.steps.scalar_steps_hold.Goals as goal

pub returns : goal.returns
returns c = scalars_hold
