use Rattle.abs_state.proofs.StartMachines.{blocks-are_held}
use Rattle.abs_state.proofs.laws.starts.blocks_are_held.Goals as goal

pub returns : goal.returns
returns c = blocks-are_held
