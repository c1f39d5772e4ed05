-- The sum so far, and the sum of what is left, make the whole sum.
use Rattle.std.proofs.Common.{◌≡◌, ◌+◌, ◌*◌, ◌^◌, ◌≤◌, drop}
use Rattle.linear_facts.specs.Sums.{AllAtMost, shares, ends}
use Rattle.linear_facts.proofs.sums.sum_of_shares.Given as goal

abbrev pub invariant-loop-term : goal.invariant-loop-term
invariant-loop-term l = record {
  rest : l.sum + shares l.side (ends l.atoms l.end) (drop l.term-index l.terms) ≡ shares l.side (ends l.atoms l.end) l.terms;
  bound : l.sum ≤ l.term-index * 2 ^ 105;
  close : AllAtMost (2 ^ 40) l.terms → l.sum ≤ l.term-index * 2 ^ 72;
}
