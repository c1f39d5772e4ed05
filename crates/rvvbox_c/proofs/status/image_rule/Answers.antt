-- Each rule has its number.
use Rattle.std.proofs.Common.{arith}
use Rattle.std.proofs.lemmas.Grind.{common_steps}
use Rattle.rvvbox_c.proofs.status.image_rule.Goals as goal

pub returns-in-BadClass : goal.returns-in-BadClass
returns-in-BadClass c = grind (arith, common_steps)
