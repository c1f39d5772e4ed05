-- What is kept was accepted at the length that is asked for.
use Rattle.std.proofs.Common.{arith}
use Rattle.std.proofs.lemmas.Grind.{common_steps}
use Rattle.rvvbox_c.proofs.handles.kernel_of.Goals as goal

pub returns-in-Ok-made-clause-kept : goal.returns-in-Ok-made-clause-kept
returns-in-Ok-made-clause-kept c = grind (arith, common_steps)
