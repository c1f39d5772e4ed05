use Rattle.std.proofs.Common.{arith}
use Rattle.vector_mem.proofs.transfers.load_each.Goals as goal

pub load_as-requires-in-W32 : goal.load_as-requires-in-W32
load_as-requires-in-W32 g c = grind arith

pub returns-in-W8 : goal.returns-in-W8
returns-in-W8 g c = grind arith
