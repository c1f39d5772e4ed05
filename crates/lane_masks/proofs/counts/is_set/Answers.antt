use Rattle.std.proofs.Common.{arith}
use Rattle.lane_masks.specs.Masks.{set_at}
use Rattle.lane_masks.proofs.counts.is_set.Goals as goal

pub returns-in-Including-Some : goal.returns-in-Including-Some
unfolding set_at
returns-in-Including-Some c = grind arith

pub returns-in-Only-None : goal.returns-in-Only-None
unfolding set_at
returns-in-Only-None c = grind arith
