-- The terms so far.
use Rattle.std.proofs.Common.{◌≡◌, map, take}
use Rattle.abs_domain.specs.Starts.{form_term}
use Rattle.check_reasons.proofs.sums.sum_stated.Given as goal

abbrev pub invariant-loop-term : goal.invariant-loop-term
invariant-loop-term l = l.terms.items ≡ map form_term (take l.term-index l.term-items)
