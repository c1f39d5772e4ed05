-- The forms so far.
use Rattle.std.proofs.Common.{◌≡◌, map, take, length}
use Rattle.std.specs.List.{range_with_len}
use Rattle.abs_domain.specs.Starts.{stated_form}
use Rattle.abs_domain.proofs.starts.put_forms.Given as goal

abbrev pub invariant-loop-number : goal.invariant-loop-number
invariant-loop-number g l = record {
  count : length l.forms.items ≡ 33;
  forms : take l.number l.forms.items ≡ map (stated_form l.facts) (range_with_len 0 l.number);
}
