use Rattle.std.proofs.Common.{arith}
use Rattle.std.proofs.lemmas.Grind.{common_steps}
use Rattle.vreg_groups.specs.Elements.{bit_of}
use Rattle.vreg_groups.proofs.bytes.bit_of.Goals as goal

pub returns : goal.returns
unfolding bit_of
returns c = grind (arith, common_steps)
