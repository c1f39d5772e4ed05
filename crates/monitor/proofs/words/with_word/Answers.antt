-- The word of the command is read as its kind.
use Rattle.std.proofs.Common.{arith}
use Rattle.std.proofs.lemmas.Grind.{common_steps}
use Rattle.monitor.proofs.words.with_word.Goals as goal

pub returns-in_ok-ok_or-in-s : goal.returns-in_ok-ok_or-in-s
returns-in_ok-ok_or-in-s c = grind (arith, common_steps)
