-- Two products leave the coefficients small.
use Rattle.std.proofs.Common.{arith, ◌≡◌, ◌+◌, ◌^◌, ◌∙◌, List, [], ap, length, refl}
use Rattle.linear_facts.specs.Words.{WholeTerm, Added, Taken}
use Rattle.linear_facts.specs.Forms.{Linear}
use Rattle.linear_facts.specs.Ranges.{AtomTable}
use Rattle.linear_facts.specs.Differences.{WholeSum, with_product, with_products, difference_of, once}
use Rattle.linear_facts.specs.SumLemmas.{at_most_more, none_small}
use Rattle.linear_facts.proofs.differences.difference_of_two.Goals as goal

two_products : (table : AtomTable) (f g : Linear) (items : List WholeTerm) (a b : WholeSum) → items ≡ []
    → a ≡ with_product table Added record { plus = 0; minus = 0; terms = items } record { factor = 1; form = f }
    → b ≡ with_product table Taken a record { factor = 1; form = g } → b ≡ difference_of table 0 (once f) 0 (once g)
unfolding difference_of with_products
two_products table f g items a b e p q = q ∙ rw (p, e) refl

pub add_product-requires-2-clause-small : goal.add_product-requires-2-clause-small
add_product-requires-2-clause-small c =
    at_most_more (0 + 2 ^ 67) (2 ^ 90) _ (omega arith) (c.add_product.ensures.bound 0 (none_small _ c.new.ensures))

pub returns-clause-sum : goal.returns-clause-sum
returns-clause-sum c =
    two_products c.args.atoms.now c.args.form.now c.args.other.now c.new.result.items _ _ c.new.ensures c.add_product.ensures.sum c.add_product-2.ensures.sum

pub returns-clause-bounded : goal.returns-clause-bounded
returns-clause-bounded c = record {
  few = omega (arith, ap length c.new.ensures);
  small = at_most_more (0 + 2 ^ 67 + 2 ^ 67) (2 ^ 68) _ (omega arith)
      (c.add_product-2.ensures.bound (0 + 2 ^ 67) (c.add_product.ensures.bound 0 (none_small _ c.new.ensures)));
  plus = omega arith;
  minus = omega arith;
}
