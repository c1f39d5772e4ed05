use Rattle.std.proofs.Common.{arith}
use Rattle.region_mem.specs.SearchLemmas.{search_none, search_nowhere, search_found}
use Rattle.region_mem.proofs.areas.place_of.Goals as goal

pub returns-then-count-eq0 : goal.returns-then-count-eq0
returns-then-count-eq0 g c =
    search_nowhere c.args.address c.args.regions.now c.count_up_to-count.result c.requires c.count_up_to-count.ensures.split (grind (arith, c.if-count-eq0.true))

pub returns-else-holds : goal.returns-else-holds
returns-else-holds g c = grind (arith, search_none)

pub returns-then-holds : goal.returns-then-holds
returns-then-holds g c = grind (arith, search_found, search_none)
