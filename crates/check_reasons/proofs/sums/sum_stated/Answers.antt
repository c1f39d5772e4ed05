use Rattle.std.proofs.Common.{arith}
use Rattle.std.proofs.lemmas.Grind.{common_steps}
use Rattle.check_reasons.proofs.sums.sum_stated.Goals as goal

pub push-requires : goal.push-requires
push-requires c = grind (arith, common_steps)
