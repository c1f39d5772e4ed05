use Rattle.commands.proofs.Corollaries.{try_done}
use Rattle.commands.proofs.memory.try_memory.Goals as goal

pub returns-clause-done : goal.returns-clause-done
returns-clause-done c = try_done _ _ _ _ _ _ _ _ _ _ _ c.try_job.ensures.ends

pub returns-clause-ends : goal.returns-clause-ends
returns-clause-ends c = c.try_job.ensures.ends
