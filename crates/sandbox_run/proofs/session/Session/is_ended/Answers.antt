use Rattle.std.proofs.Common.{rules}
use Rattle.sandbox_run.proofs.session.Session.is_ended.Goals as goal

pub returns : goal.returns
returns g c = search rules
