-- Each product adds eight terms at most, and 2^67 to a coefficient.
use Rattle.std.proofs.Common.{arith, ◌∙◌, ◌+◌, ◌*◌, ◌^◌, sym, ap, drop}
use Rattle.linear_facts.specs.Differences.{with_product, with_products}
use Rattle.linear_facts.specs.SumLemmas.{at_most_more}
use Rattle.linear_facts.specs.DifferenceLemmas.{products-more, products-done, AreForms-more, AreForms-all}
use Rattle.linear_facts.proofs.differences.add_products.Goals as goal

pub add_product-requires-clause-small : goal.add_product-requires-clause-small
add_product-requires-clause-small c =
    at_most_more (2 ^ 80 + c.loop-product.product-index * 2 ^ 67) (2 ^ 90) _ (omega (arith, c.requires.few, c.loop-product-test.true))
    (c.loop-product.invariant.bound (2 ^ 80) c.requires.small)

pub loop-product-preserved : goal.loop-product-preserved
loop-product-preserved c = record {
  rest =
      ap (λ s. with_products c.args.atoms.now c.args.side s (drop (c.loop-product.product-index + 1) c.args.products.now))
      (c.add_product.ensures.sum ∙ ap (with_product c.args.atoms.now c.args.side c.loop-product.sum) c.product-item.is)
      ∙ (sym (products-more c.args.atoms.now c.args.side c.loop-product.sum c.args.products.now c.loop-product.product-index c.product-item.result c.loop-product-test.true)
      ∙ c.loop-product.invariant.rest);
  count = omega (arith, c.add_product.ensures.length, c.loop-product.invariant.count);
  bound = λ n small.
      at_most_more (n + c.loop-product.product-index * 2 ^ 67 + 2 ^ 67) _ _ (omega arith)
      (c.add_product.ensures.bound _ (c.loop-product.invariant.bound n small));
  plus = omega (arith, c.add_product.ensures.plus, c.loop-product.invariant.plus);
  minus = omega (arith, c.add_product.ensures.minus, c.loop-product.invariant.minus);
  forms = AreForms-more c.args.products.now c.loop-product.product-index c.product-item.result c.product-item.result c.loop-product-test.true
      c.product-item.is c.loop-product.invariant.forms c.add_product.ensures.form;
}

pub returns-clause-sum : goal.returns-clause-sum
returns-clause-sum c = sym (products-done _ _ _ _ _ c.loop-product-test.false) ∙ c.loop-product.invariant.rest

pub returns-clause-bound : goal.returns-clause-bound
returns-clause-bound c = λ n small.
    at_most_more (n + c.loop-product.product-index * 2 ^ 67) (n + 2 ^ 69) _ (omega (arith, c.requires.few)) (c.loop-product.invariant.bound n small)

pub returns-clause-forms : goal.returns-clause-forms
returns-clause-forms c = AreForms-all _ _ c.loop-product-test.false c.loop-product.invariant.forms
