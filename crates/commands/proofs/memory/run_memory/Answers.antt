use Rattle.commands.proofs.Corollaries.{run_done}
use Rattle.commands.proofs.memory.run_memory.Goals as goal

pub returns-clause-done : goal.returns-clause-done
returns-clause-done c = run_done _ _ _ _ _ _ _ _ _ _ _ c.run_job.ensures.ends

pub returns-clause-ends : goal.returns-clause-ends
returns-clause-ends c = c.run_job.ensures.ends
