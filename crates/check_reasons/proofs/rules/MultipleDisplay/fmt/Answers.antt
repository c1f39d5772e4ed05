use Rattle.std.proofs.Common.{sym}
use Rattle.check_reasons.proofs.rules.MultipleDisplay.fmt.Goals as goal

pub returns-clause-writes : goal.returns-clause-writes
returns-clause-writes g c = λ plain ok. rw (sym c.number-first.ensures.value) (c.write.ensures.writes plain ok)
