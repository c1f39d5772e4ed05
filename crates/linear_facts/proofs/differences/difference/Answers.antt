-- Four products leave the coefficients small.
use Rattle.std.proofs.Common.{arith, ◌+◌, ◌^◌, ap, length}
use Rattle.linear_facts.specs.SumLemmas.{at_most_more, none_small}
use Rattle.linear_facts.proofs.differences.difference.Goals as goal

pub add_products-requires-2-clause-small : goal.add_products-requires-2-clause-small
add_products-requires-2-clause-small c =
    at_most_more (0 + 2 ^ 69) (2 ^ 80) _ (omega arith) (c.add_products.ensures.bound 0 (none_small _ c.new.ensures))

pub returns-clause-bounded : goal.returns-clause-bounded
returns-clause-bounded c = record {
  few = omega (arith, ap length c.new.ensures);
  small = at_most_more (0 + 2 ^ 69 + 2 ^ 69) (2 ^ 73) _ (omega arith)
      (c.add_products-2.ensures.bound (0 + 2 ^ 69) (c.add_products.ensures.bound 0 (none_small _ c.new.ensures)));
  plus = omega arith;
  minus = omega arith;
}
