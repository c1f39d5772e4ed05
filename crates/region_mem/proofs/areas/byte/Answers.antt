use Rattle.std.proofs.Common.{arith}
use Rattle.region_mem.specs.Areas.{byte_at}
use Rattle.region_mem.specs.AccessLemmas.{find_holds}
use Rattle.region_mem.proofs.areas.byte.Goals as goal

pub byte-requires : goal.byte-requires
unfolding byte_at
byte-requires g c = grind (arith, find_holds)
