-- The ranges so far.
use Rattle.std.proofs.Common.{◌≡◌, ℕ, map, take, length, Some}
use Rattle.std.specs.List.{range_with_len}
use Rattle.linear_facts.specs.Sums.{range_of_form}
use Rattle.abs_domain.specs.Values.{computed_range}
use Rattle.abs_domain.specs.Starts.{stated_range, stated_form}
use Rattle.abs_domain.proofs.starts.start_ranges.Given as goal

abbrev pub invariant-loop-number : goal.invariant-loop-number
invariant-loop-number l = record {
  count : length l.ranges ≡ 33;
  ranges : take l.number l.ranges
      ≡ map (λ (i : ℕ). computed_range (Some (stated_range l.facts i)) (range_of_form l.atoms (stated_form l.facts i)))
      (range_with_len 0 l.number);
}
