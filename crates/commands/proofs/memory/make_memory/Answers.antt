use Rattle.commands.proofs.Corollaries.{make_done}
use Rattle.commands.proofs.memory.make_memory.Goals as goal

pub returns-clause-done : goal.returns-clause-done
returns-clause-done c = make_done _ _ _ _ _ _ _ _ _ _ _ _ c.make_image.ensures.ends

pub returns-clause-ends : goal.returns-clause-ends
returns-clause-ends c = c.make_image.ensures.ends
