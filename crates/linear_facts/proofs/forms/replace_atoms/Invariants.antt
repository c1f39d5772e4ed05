-- Replacing in what is left gives the whole, and each term added at most eight.
use Rattle.std.proofs.Common.{◌≡◌, ◌≤◌, ◌*◌, length, drop}
use Rattle.linear_facts.specs.Forms.{with_replaced}
use Rattle.linear_facts.proofs.forms.replace_atoms.Given as goal

abbrev pub invariant-loop-term : goal.invariant-loop-term
invariant-loop-term l = record {
  rest : with_replaced l.forms l.sum (drop l.term-index l.terms) ≡ with_replaced l.forms l.fn.start l.terms;
  room : length l.sum.terms ≤ 8 * l.term-index;
}
