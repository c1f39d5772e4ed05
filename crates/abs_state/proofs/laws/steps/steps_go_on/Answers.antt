use Rattle.abs_state.proofs.StepMachines.{goes_on}
use Rattle.abs_state.proofs.laws.steps.steps_go_on.Goals as goal

pub returns : goal.returns
returns c = goes_on
