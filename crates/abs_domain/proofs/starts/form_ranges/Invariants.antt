-- The ranges so far.
use Rattle.std.proofs.Common.{◌≡◌, map, take, length, None}
use Rattle.linear_facts.specs.Sums.{range_of_form}
use Rattle.abs_domain.specs.Values.{computed_range}
use Rattle.abs_domain.proofs.starts.form_ranges.Given as goal

abbrev pub invariant-loop-place : goal.invariant-loop-place
invariant-loop-place l = record {
  count : length l.ranges ≡ 33;
  ranges : take l.place l.ranges
      ≡ map (λ form. computed_range None (range_of_form l.atoms form)) (take l.place l.forms);
}
