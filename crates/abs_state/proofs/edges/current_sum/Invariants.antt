-- Replacing in what is left gives the whole, and each term added at most eight.
use Rattle.std.proofs.Common.{◌≡◌, ◌≤◌, ◌*◌, length, drop, map}
use Rattle.linear_facts.specs.Forms.{number_form, with_replaced}
use Rattle.abs_domain.specs.Starts.{form_term}
use Rattle.abs_state.proofs.edges.current_sum.Given as goal

abbrev pub invariant-loop-term : goal.invariant-loop-term
invariant-loop-term l = record {
  rest : with_replaced l.forms l.sum (drop l.term-index (map form_term l.terms))
      ≡ with_replaced l.forms (number_form l.constant) (map form_term l.terms);
  room : length l.sum.terms ≤ 8 * l.term-index;
}
