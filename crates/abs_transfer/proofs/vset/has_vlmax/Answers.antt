-- The type that is known has this VLMAX, or another one.
use Rattle.std.proofs.Common.{arith}
use Rattle.std.proofs.lemmas.Grind.{common_steps}
use Rattle.abs_transfer.specs.Vset.{has_vlmax}
use Rattle.abs_transfer.proofs.vset.has_vlmax.Goals as goal

pub returns-in-Some-from_bits : goal.returns-in-Some-from_bits
unfolding has_vlmax
returns-in-Some-from_bits c = grind (arith, common_steps)
