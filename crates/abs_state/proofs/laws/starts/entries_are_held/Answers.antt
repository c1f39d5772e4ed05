use Rattle.abs_state.proofs.StartMachines.{entries-are_held}
use Rattle.abs_state.proofs.laws.starts.entries_are_held.Goals as goal

pub returns : goal.returns
returns c = entries-are_held
