-- The form of the terms so far.
use Rattle.std.proofs.Common.{◌≡◌, map, take}
use Rattle.abs_domain.specs.Starts.{form_term}
use Rattle.abs_domain.proofs.starts.equality_form.Given as goal

abbrev pub invariant-loop-term : goal.invariant-loop-term
invariant-loop-term l =
    l.form ≡ record { constant = l.equality.constant; terms = map form_term (take l.term-index l.term-items) }
