-- Adding what is left gives the whole, and each product made the sum little larger.
use Rattle.std.proofs.Common.{◌≡◌, ◌≤◌, ◌+◌, ◌*◌, ◌^◌, ℕ, length, take, drop}
use Rattle.linear_facts.specs.Sums.{AllAtMost}
use Rattle.linear_facts.specs.Differences.{with_products, AreForms}
use Rattle.linear_facts.proofs.differences.add_products.Given as goal

abbrev pub invariant-loop-product : goal.invariant-loop-product
invariant-loop-product l = record {
  rest : with_products l.atoms l.side l.sum (drop l.product-index l.products) ≡ with_products l.atoms l.side l.initial.sum l.products;
  count : length l.sum.terms ≤ length l.initial.sum.terms + 8 * l.product-index;
  bound : (n : ℕ) → AllAtMost n l.initial.sum.terms → AllAtMost (n + l.product-index * 2 ^ 67) l.sum.terms;
  plus : l.sum.plus ≤ l.initial.sum.plus + l.product-index * 2 ^ 114;
  minus : l.sum.minus ≤ l.initial.sum.minus + l.product-index * 2 ^ 114;
  forms : AreForms (take l.product-index l.products);
}
