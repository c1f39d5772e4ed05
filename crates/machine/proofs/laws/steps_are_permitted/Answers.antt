use Rattle.machine.proofs.Permits.{steps_permitted}
use Rattle.machine.proofs.laws.steps_are_permitted.Goals as goal

pub returns : goal.returns
returns c = steps_permitted
