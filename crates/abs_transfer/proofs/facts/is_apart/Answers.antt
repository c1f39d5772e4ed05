-- A group ends before the registers, or begins behind them.
use Rattle.std.proofs.Common.{arith}
use Rattle.std.proofs.lemmas.Grind.{common_steps}
use Rattle.abs_transfer.specs.Facts.{is_apart}
use Rattle.abs_transfer.proofs.facts.is_apart.Goals as goal

pub returns-then-register-from : goal.returns-then-register-from
unfolding is_apart
returns-then-register-from c = grind (arith, common_steps)
