use Rattle.std.proofs.Common.{arith}
use Rattle.region_mem.specs.AccessLemmas.{number_in_one, open_in_one}
use Rattle.region_mem.proofs.areas.number.Goals as goal

pub returns-in-Some-number_for : goal.returns-in-Some-number_for
returns-in-Some-number_for g c = grind (arith, open_in_one, number_in_one)
