use Rattle.std.proofs.Common.{arith}
use Rattle.std.proofs.lemmas.Grind.{common_steps}
use Rattle.rv_decode.specs.Needs.{access_operands}
use Rattle.rv_decode.proofs.extents.access_operands.Goals as goal

pub returns-in-Store : goal.returns-in-Store
unfolding access_operands
returns-in-Store c = grind (arith, common_steps)
