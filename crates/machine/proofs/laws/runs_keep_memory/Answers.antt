use Rattle.machine.proofs.KeptMemory.{runs_keep}
use Rattle.machine.proofs.laws.runs_keep_memory.Goals as goal

pub returns : goal.returns
returns c = runs_keep
