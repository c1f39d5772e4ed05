-- Splitting what is left gives the whole, and each term made the list and its coefficients little larger.
use Rattle.std.proofs.Common.{◌≡◌, ◌≤◌, ◌*◌, ◌^◌, length, [], drop}
use Rattle.linear_facts.specs.Sums.{AllAtMost, with_split}
use Rattle.linear_facts.proofs.sums.split_terms.Given as goal

abbrev pub invariant-loop-term : goal.invariant-loop-term
invariant-loop-term l = record {
  rest : with_split l.atoms l.replaced.items (drop l.term-index l.terms) ≡ with_split l.atoms [] l.terms;
  few : length l.replaced.items ≤ 2 * l.term-index;
  small : AllAtMost (l.term-index * 2 ^ 69) l.replaced.items;
  close : AllAtMost (2 ^ 32) l.terms → AllAtMost (l.term-index * 2 ^ 33) l.replaced.items;
}
