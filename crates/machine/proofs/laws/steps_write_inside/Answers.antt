use Rattle.machine.proofs.WritesInside.{steps_write_inside}
use Rattle.machine.proofs.laws.steps_write_inside.Goals as goal

pub returns : goal.returns
returns c = steps_write_inside
