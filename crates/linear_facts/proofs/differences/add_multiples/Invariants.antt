-- Adding what is left gives the whole, and each term made the list and its coefficients little larger.
use Rattle.std.proofs.Common.{◌≡◌, ◌≤◌, ◌+◌, ◌*◌, ◌^◌, ℕ, length, drop}
use Rattle.linear_facts.specs.Sums.{AllAtMost}
use Rattle.linear_facts.specs.Differences.{with_multiples}
use Rattle.linear_facts.proofs.differences.add_multiples.Given as goal

abbrev pub invariant-loop-term : goal.invariant-loop-term
invariant-loop-term l = record {
  rest : with_multiples l.side l.k l.terms.items (drop l.term-index l.more) ≡ with_multiples l.side l.k l.initial.terms.items l.more;
  count : length l.terms.items ≤ length l.initial.terms.items + l.term-index;
  bound : (n : ℕ) → AllAtMost n l.initial.terms.items → AllAtMost (n + l.term-index * 2 ^ 64) l.terms.items;
}
