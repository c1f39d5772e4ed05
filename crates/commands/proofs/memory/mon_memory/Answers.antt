use Rattle.commands.proofs.Corollaries.{mon_done}
use Rattle.commands.proofs.memory.mon_memory.Goals as goal

pub returns-clause-done : goal.returns-clause-done
returns-clause-done g c = mon_done _ _ _ _ _ _ _ c.mon_job.ensures.ends

pub returns-clause-ends : goal.returns-clause-ends
returns-clause-ends g c = c.mon_job.ensures.ends
