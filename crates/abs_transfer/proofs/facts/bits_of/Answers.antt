-- The width tells its bits, and that they are few.
use Rattle.std.proofs.Common.{◌∙◌, arith}
use Rattle.abs_transfer.proofs.facts.bits_of.Goals as goal

pub returns-clause-meaning : goal.returns-clause-meaning
returns-clause-meaning c = c.from.ensures ∙ c.bits.ensures.value

pub returns-clause-bound : goal.returns-clause-bound
returns-clause-bound c = omega (arith, c.from.ensures, c.bits.ensures.few)
