use Rattle.std.proofs.Common.{arith}
use Rattle.std.proofs.lemmas.Grind.{common_steps}
use Rattle.rvvbox_c.proofs.status.StatusFromElfError.from.Goals as goal

pub returns-in-TooShort : goal.returns-in-TooShort
returns-in-TooShort c = grind (arith, common_steps)
