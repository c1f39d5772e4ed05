use Rattle.std.proofs.Common.{rules}
use Rattle.sandbox_run.proofs.any_session.AnySession.open_with.Goals as goal

pub returns-in-Ok-open_with-clause-refused : goal.returns-in-Ok-open_with-clause-refused
returns-in-Ok-open_with-clause-refused c = search rules

pub returns-in-Err-open_with-clause-refused : goal.returns-in-Err-open_with-clause-refused
returns-in-Err-open_with-clause-refused c = search rules

pub returns-in-Err-open_with-clause-memory : goal.returns-in-Err-open_with-clause-memory
returns-in-Err-open_with-clause-memory c = search rules
