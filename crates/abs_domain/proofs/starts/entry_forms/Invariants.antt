-- The forms so far.
use Rattle.std.proofs.Common.{◌≡◌, map}
use Rattle.std.specs.List.{range_with_len}
use Rattle.abs_domain.specs.Starts.{entry_form}
use Rattle.abs_domain.proofs.starts.entry_forms.Given as goal

abbrev pub invariant-loop-number : goal.invariant-loop-number
invariant-loop-number g l = l.forms.items ≡ map (entry_form l.parameters) (range_with_len 0 l.number)
