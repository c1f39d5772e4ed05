-- A buffer's kind goes by its mode.
use Rattle.std.proofs.Common.{arith}
use Rattle.std.proofs.lemmas.Grind.{common_steps}
use Rattle.rvvbox_c.proofs.facts.told.Goals as goal

pub returns-in-Read : goal.returns-in-Read
returns-in-Read c = grind (arith, common_steps)
