use Rattle.machine.proofs.WrittenAlike.{steps_read_inside}
use Rattle.machine.proofs.laws.steps_read_inside.Goals as goal

pub returns : goal.returns
returns c = steps_read_inside c.stores_keep_extents.ensures
