-- What is scaled so far, and the multiples of what is left, make the whole list.
use Rattle.std.proofs.Common.{◌≡◌, ◌≤◌, ◌++◌, length, drop}
use Rattle.linear_facts.specs.Forms.{scaled_terms}
use Rattle.linear_facts.proofs.forms.scale_terms.Given as goal

abbrev pub invariant-loop-term : goal.invariant-loop-term
invariant-loop-term g l = record {
  rest : l.scaled.items ++ scaled_terms l.k (drop l.term-index l.terms) ≡ scaled_terms l.k l.terms;
  room : length l.scaled.items ≤ g.row.R;
}
