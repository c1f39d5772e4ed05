-- What is signed so far, and what is left, make the whole list.
use Rattle.std.proofs.Common.{◌≡◌, ◌++◌, length, map, drop}
use Rattle.linear_facts.specs.Sums.{signed_term}
use Rattle.linear_facts.proofs.sums.signed_terms.Given as goal

abbrev pub invariant-loop-term : goal.invariant-loop-term
invariant-loop-term l = record {
  rest : l.signed.items ++ map signed_term (drop l.term-index l.terms) ≡ map signed_term l.terms;
  count : length l.signed.items ≡ l.term-index;
}
