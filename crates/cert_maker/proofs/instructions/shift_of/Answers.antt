use Rattle.std.proofs.Common.{arith}
use Rattle.std.proofs.lemmas.Grind.{common_steps}
use Rattle.cert_maker.specs.Loops.{shift_of}
use Rattle.cert_maker.proofs.instructions.shift_of.Goals as goal

pub returns-in-W32 : goal.returns-in-W32
unfolding shift_of
returns-in-W32 c = grind (arith, common_steps)
