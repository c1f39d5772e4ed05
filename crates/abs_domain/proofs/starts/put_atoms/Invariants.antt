-- The atoms so far.
use Rattle.std.proofs.Common.{◌≡◌, ◌≤◌, ◌+◌, ◌++◌, map, length, vec_capacity}
use Rattle.std.specs.List.{range_with_len, slice_get}
use Rattle.abs_domain.specs.declared.numbers.TheConstants.{MOST_ATOMS}
use Rattle.abs_domain.specs.Numbers.{plain}
use Rattle.abs_domain.specs.Starts.{stated_range, passed_range}
use Rattle.abs_domain.proofs.starts.put_atoms.Given as goal

abbrev pub invariant-loop-number : goal.invariant-loop-number
invariant-loop-number g l = record {
  items : l.atoms.items ≡ map (λ i. plain (stated_range l.facts i)) (range_with_len 0 l.number);
  count : length l.atoms.items ≡ l.number;
  room : MOST_ATOMS ≤ vec_capacity l.atoms;
}

abbrev pub invariant-loop-place : goal.invariant-loop-place
invariant-loop-place g l = record {
  items : l.atoms.items
      ≡ map (λ i. plain (stated_range l.facts i)) (range_with_len 0 33)
      ++ map (λ place. plain (passed_range (slice_get l.parameters place))) (range_with_len 0 l.place);
  count : length l.atoms.items ≡ 33 + l.place;
  room : MOST_ATOMS ≤ vec_capacity l.atoms;
}
