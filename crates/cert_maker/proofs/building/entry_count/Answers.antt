use Rattle.std.proofs.Common.{arith}
use Rattle.std.proofs.lemmas.Grind.{common_steps}
use Rattle.cert_maker.proofs.building.entry_count.Goals as goal

pub returns : goal.returns
returns c = grind (arith, common_steps)
