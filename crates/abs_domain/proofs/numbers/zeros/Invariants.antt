-- The forms so far.
use Rattle.std.proofs.Common.{◌≡◌, replicate}
use Rattle.linear_facts.specs.Forms.{number_form}
use Rattle.abs_domain.proofs.numbers.zeros.Given as goal

abbrev pub invariant-loop-number : goal.invariant-loop-number
invariant-loop-number g l = l.forms.items ≡ replicate l._number (number_form 0)
