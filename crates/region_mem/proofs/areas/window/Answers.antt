-- What `search` finds late, or not at all.
use Rattle.std.proofs.Common.{arith}
use Rattle.region_mem.proofs.WindowLemmas.{window_at, window_nowhere}
use Rattle.region_mem.proofs.areas.window.Goals as goal

pub returns-in-Some : goal.returns-in-Some
returns-in-Some g c = grind (arith, window_at, window_nowhere)

pub returns-in-None : goal.returns-in-None
returns-in-None g c = grind (arith, window_at, window_nowhere)
