use Rattle.std.proofs.Common.{arith, ap, sym, ◌∙◌, map}
use Rattle.std.specs.List.{range_with_len, slice_get}
use Rattle.abs_domain.specs.Numbers.{plain}
use Rattle.abs_domain.specs.Starts.{stated_range, passed_range}
use Rattle.abs_domain.specs.StartFormLemmas.{pushed_more, pushed_behind}
use Rattle.abs_domain.proofs.starts.put_atoms.Goals as goal

pub loop-number-preserved : goal.loop-number-preserved
loop-number-preserved g c = record {
  items =
      pushed_more (λ i. plain (stated_range c.args.facts.now i)) c.loop-number.number _ _ _ c.loop-number.invariant.items
      (ap plain c.stated_range.ensures) c.push_plain.ensures.items;
  count = omega (arith, c.loop-number.invariant.count, c.push_plain.ensures.count);
  room = c.push_plain.ensures.room;
}

pub loop-place-preserved : goal.loop-place-preserved
loop-place-preserved g c = record {
  items =
      pushed_behind (map (λ i. plain (stated_range c.args.facts.now i)) (range_with_len 0 33))
      (λ place. plain (passed_range (slice_get c.args.parameters.now place))) c.loop-place.place _ _ _ c.loop-place.invariant.items
      (ap plain (c.passed_range.ensures ∙ ap passed_range (sym c.param.ensures))) c.push_plain-in-loop-place.ensures.items;
  count = omega (arith, c.loop-place.invariant.count, c.push_plain-in-loop-place.ensures.count);
  room = c.push_plain-in-loop-place.ensures.room;
}
