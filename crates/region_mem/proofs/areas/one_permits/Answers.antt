use Rattle.std.proofs.Common.{arith}
use Rattle.region_mem.proofs.WindowLemmas.{window_told, window_nowhere}
use Rattle.region_mem.specs.AccessLemmas.{open_in_one}
use Rattle.region_mem.proofs.areas.one_permits.Goals as goal

pub returns-in-Some-clause-found : goal.returns-in-Some-clause-found
returns-in-Some-clause-found g c = grind (arith, window_told)

pub returns-in-Some-clause-open : goal.returns-in-Some-clause-open
returns-in-Some-clause-open g c = grind (arith, open_in_one, window_told, window_nowhere)

pub returns-in-None-clause-found : goal.returns-in-None-clause-found
returns-in-None-clause-found g c = grind (arith, open_in_one, window_told, window_nowhere)
