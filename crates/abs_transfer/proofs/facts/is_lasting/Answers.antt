-- A fact that is not for vl stays, and one for vl where vl is at least 1.
use Rattle.std.proofs.Common.{arith}
use Rattle.std.proofs.lemmas.Grind.{common_steps}
use Rattle.abs_transfer.specs.Facts.{is_lasting}
use Rattle.abs_transfer.proofs.facts.is_lasting.Goals as goal

pub returns-else-fact-ne0 : goal.returns-else-fact-ne0
unfolding is_lasting
returns-else-fact-ne0 c = grind (arith, common_steps)
