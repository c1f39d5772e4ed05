use Rattle.std.proofs.Common.{arith, length, ap}
use Rattle.abs_domain.specs.StartNumberLemmas.{atoms_many}
use Rattle.abs_domain.proofs.numbers.Numbers.start.Goals as goal

pub add_orders-requires-clause-many : goal.add_orders-requires-clause-many
add_orders-requires-clause-many g c = omega (arith, ap length c.put_atoms.ensures.items, atoms_many c.args.parameters.now c.args.facts.now)

pub add_orders-requires-clause-few : goal.add_orders-requires-clause-few
add_orders-requires-clause-few g c = omega (arith, ap length c.put_atoms.ensures.items, atoms_many c.args.parameters.now c.args.facts.now, c.requires.few)

pub returns-clause-few : goal.returns-clause-few
returns-clause-few g c =
    omega (
      arith,
      c.add_orders.ensures.count,
      ap length c.put_atoms.ensures.items,
      atoms_many c.args.parameters.now c.args.facts.now,
      c.requires.few,
    )
