use Rattle.std.proofs.Common.{arith}
use Rattle.check_reasons.specs.Edge.{left_of}
use Rattle.check_reasons.proofs.edge.left_block.Goals as goal

pub index-requires : goal.index-requires
unfolding left_of
index-requires c = grind arith
