use Rattle.std.proofs.Common.{arith}
use Rattle.region_mem.specs.ExtentLemmas.{number_order, number_inside}
use Rattle.region_mem.proofs.areas.set_by_bytes.Goals as goal

pub returns-then-not-permits-clause-value : goal.returns-then-not-permits-clause-value
returns-then-not-permits-clause-value g c = cc

pub returns-clause-value : goal.returns-clause-value
returns-clause-value g c = cc

pub returns-clause-order : goal.returns-clause-order
returns-clause-order g c = grind (arith, number_order, number_inside)

pub returns-clause-inside : goal.returns-clause-inside
returns-clause-inside g c = grind (arith, number_order, number_inside)
