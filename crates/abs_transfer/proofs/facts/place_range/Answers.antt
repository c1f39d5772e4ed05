-- The numbers of elements are those below VLMAX.
use Rattle.std.proofs.Common.{arith}
use Rattle.std.proofs.lemmas.Grind.{common_steps}
use Rattle.abs_transfer.proofs.facts.place_range.Goals as goal

pub returns : goal.returns
returns c = grind (arith, common_steps)
