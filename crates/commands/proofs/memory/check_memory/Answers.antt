use Rattle.commands.proofs.Corollaries.{check_done, check_kept}
use Rattle.commands.proofs.memory.check_memory.Goals as goal

pub returns-clause-done : goal.returns-clause-done
returns-clause-done c = check_done _ _ _ _ _ _ _ _ _ _ c.check_image.ensures.ends

pub returns-clause-kept : goal.returns-clause-kept
returns-clause-kept c = check_kept _ _ _ _ _ _ _ _ _ _ c.check_image.ensures.ends

pub returns-clause-ends : goal.returns-clause-ends
returns-clause-ends c = c.check_image.ensures.ends
