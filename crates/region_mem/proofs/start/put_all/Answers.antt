-- Place by place.
use Rattle.std.proofs.Common.{arith}
use Rattle.region_mem.proofs.Order.{insert_eight}
use Rattle.std.proofs.lemmas.Grind.{common_steps}
use Rattle.region_mem.proofs.start.put_all.Goals as goal

pub returns : goal.returns
returns g c =
    insert_eight _ c.args.args.places _ _ _ _ _ _ _ _ _ _ _ _ _ _ _ _ _ c.put.ensures.items c.put-2.ensures.items c.put-3.ensures.items c.put-4.ensures.items c.put-5.ensures.items c.put-6.ensures.items c.put-7.ensures.items c.put-8.ensures.items (omega arith) (cc) (cc) (cc) (cc) (cc) (cc) (cc) (cc)

pub put-requires-clause-small : goal.put-requires-clause-small
put-requires-clause-small g c = grind (arith, common_steps)

pub put-requires-2-clause-small : goal.put-requires-2-clause-small
put-requires-2-clause-small g c = grind (arith, common_steps)

pub put-requires-3-clause-small : goal.put-requires-3-clause-small
put-requires-3-clause-small g c = grind (arith, common_steps)

pub put-requires-4-clause-small : goal.put-requires-4-clause-small
put-requires-4-clause-small g c = grind (arith, common_steps)

pub put-requires-5-clause-small : goal.put-requires-5-clause-small
put-requires-5-clause-small g c = grind (arith, common_steps)

pub put-requires-6-clause-small : goal.put-requires-6-clause-small
put-requires-6-clause-small g c = grind (arith, common_steps)

pub put-requires-7-clause-small : goal.put-requires-7-clause-small
put-requires-7-clause-small g c = grind (arith, common_steps)

pub put-requires-8-clause-small : goal.put-requires-8-clause-small
put-requires-8-clause-small g c = grind (arith, common_steps)
