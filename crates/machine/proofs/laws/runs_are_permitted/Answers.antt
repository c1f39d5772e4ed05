use Rattle.machine.proofs.Permits.{runs_permitted}
use Rattle.machine.proofs.laws.runs_are_permitted.Goals as goal

pub returns : goal.returns
returns c = runs_permitted c.steps_are_permitted.ensures
