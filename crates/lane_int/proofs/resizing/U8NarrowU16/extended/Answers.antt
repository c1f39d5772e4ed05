use Rattle.std.proofs.Common.{arith}
use Rattle.lane_int.specs.Resizing.{extended_to}
use Rattle.lane_int.proofs.resizing.U8NarrowU16.extended.Goals as goal

pub returns-then-is_signed : goal.returns-then-is_signed
unfolding extended_to
returns-then-is_signed c = grind arith
