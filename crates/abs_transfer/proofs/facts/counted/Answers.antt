-- A fact for vl becomes one for as many elements as vl is at least.
use Rattle.std.proofs.Common.{arith}
use Rattle.std.proofs.lemmas.Grind.{common_steps}
use Rattle.abs_transfer.specs.Facts.{counted}
use Rattle.abs_transfer.proofs.facts.counted.Goals as goal

pub returns-then-fact-eq0 : goal.returns-then-fact-eq0
unfolding counted
returns-then-fact-eq0 c = grind (arith, common_steps)
