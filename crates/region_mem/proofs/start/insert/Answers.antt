-- The place that was found is the one that the definition inserts at.
use Rattle.std.proofs.Common.{arith}
use Rattle.std.proofs.lemmas.Grind.{common_steps}
use Rattle.region_mem.proofs.Order.{insert_area_place}
use Rattle.region_mem.proofs.start.insert.Goals as goal

pub returns-clause-items : goal.returns-clause-items
returns-clause-items g c =
    let e = insert_area_place c.args.region c.args.regions.now.items c.as_slice.result.now c.first.result c.place_for-place.result c.first.ensures c.as_slice.ensures.value c.place_for-place.ensures.value in
    grind (arith, common_steps)
