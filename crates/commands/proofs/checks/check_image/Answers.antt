use Rattle.commands.proofs.CommandLemmas.{did_so, ends_as}
use Rattle.commands.proofs.checks.check_image.Goals as goal

pub returns-clause-ends : goal.returns-clause-ends
returns-clause-ends g c = ends_as c.check_at-done.result c.ended.ensures.status c.ended.ensures.told c.check_at-done.ensures.done

pub returns-clause-passed : goal.returns-clause-passed
returns-clause-passed g c = did_so c.check_at-done.result _ c.ended.ensures.status c.check_at-done.ensures.passed
