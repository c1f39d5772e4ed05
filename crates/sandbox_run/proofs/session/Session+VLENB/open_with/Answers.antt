use Rattle.std.proofs.Common.{rules}
use Rattle.sandbox_run.proofs.session.Session+VLENB.open_with.Goals as goal

pub returns-clause-opened : goal.returns-clause-opened
returns-clause-opened g c = search rules
