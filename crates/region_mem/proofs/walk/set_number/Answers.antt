use Rattle.std.proofs.Common.{arith}
use Rattle.std.proofs.lemmas.Grind.{elements}
use Rattle.region_mem.proofs.walk.set_number.Goals as goal

pub set_bytes-requires-in-2 : goal.set_bytes-requires-in-2
set_bytes-requires-in-2 g c = grind (arith, elements)
