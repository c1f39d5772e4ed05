use Rattle.abs_state.proofs.StepScalars.{csrs_hold}
use Rattle.abs_state.proofs.laws.steps.csr_steps_hold.Goals as goal

pub returns : goal.returns
returns c = csrs_hold
