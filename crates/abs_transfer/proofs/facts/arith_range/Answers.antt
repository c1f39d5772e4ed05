-- A masked operation states nothing.
use Rattle.std.proofs.Common.{arith}
use Rattle.std.proofs.lemmas.Grind.{common_steps}
use Rattle.abs_transfer.specs.Facts.{arith_range}
use Rattle.abs_transfer.proofs.facts.arith_range.Goals as goal

pub returns-in-Int : goal.returns-in-Int
unfolding arith_range
returns-in-Int g c = grind (arith, common_steps)
