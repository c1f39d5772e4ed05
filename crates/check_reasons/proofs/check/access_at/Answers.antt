use Rattle.std.proofs.Common.{arith}
use Rattle.std.proofs.lemmas.Grind.{elements}
use Rattle.check_reasons.proofs.check.access_at.Goals as goal

pub returns : goal.returns
returns g c = grind (arith, elements)
