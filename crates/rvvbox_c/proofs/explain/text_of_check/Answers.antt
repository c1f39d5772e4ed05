-- The text is of the error that the check gives.
use Rattle.std.proofs.Common.{arith}
use Rattle.std.proofs.lemmas.Grind.{common_steps}
use Rattle.rvvbox_c.proofs.explain.text_of_check.Goals as goal

pub returns-in_ok-format-in-Some-clause-text : goal.returns-in_ok-format-in-Some-clause-text
returns-in_ok-format-in-Some-clause-text c = grind (arith, common_steps)
