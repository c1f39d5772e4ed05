-- Each reason has its own words.
use Rattle.std.proofs.Common.{arith}
use Rattle.std.proofs.lemmas.Grind.{common_steps}
use Rattle.abs_domain.proofs.why.Why.words.Goals as goal

pub returns-in-ReadOnly : goal.returns-in-ReadOnly
returns-in-ReadOnly c = grind (arith, common_steps)
