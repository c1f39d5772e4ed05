use Rattle.std.proofs.Common.{arith}
use Rattle.std.proofs.lemmas.Grind.{common_steps}
use Rattle.monitor.proofs.commands.MonError.words.Goals as goal

pub returns-in-NotThere : goal.returns-in-NotThere
returns-in-NotThere c = grind (arith, common_steps)
