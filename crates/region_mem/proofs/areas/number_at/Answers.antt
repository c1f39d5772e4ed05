use Rattle.std.proofs.Common.{arith}
use Rattle.region_mem.specs.AccessLemmas.{found_there, number_in_one, open_in_one}
use Rattle.region_mem.proofs.areas.number_at.Goals as goal

pub returns-then-place-regions-clause-open : goal.returns-then-place-regions-clause-open
returns-then-place-regions-clause-open g c = grind (arith, found_there, open_in_one, number_in_one)

pub returns-then-place-regions-clause-number : goal.returns-then-place-regions-clause-number
returns-then-place-regions-clause-number g c =
    grind (arith, found_there, open_in_one, number_in_one)
