use Rattle.std.proofs.Common.{arith}
use Rattle.vector_mem.proofs.transfers.store_each.Goals as goal

pub store_as-requires : goal.store_as-requires
store_as-requires g c = grind arith

pub store_as-requires-in-W16 : goal.store_as-requires-in-W16
store_as-requires-in-W16 g c = grind arith

pub store_as-requires-in-W32 : goal.store_as-requires-in-W32
store_as-requires-in-W32 g c = grind arith
