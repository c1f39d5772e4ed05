use Rattle.std.proofs.Common.{ℕ, Some, ◌∙◌, arith}
use Rattle.std.proofs.Math.ListN.{length-set}
use Rattle.linear_facts.specs.Sums.{range_of_form}
use Rattle.abs_domain.specs.Values.{computed_range}
use Rattle.abs_domain.specs.Starts.{stated_range, stated_form}
use Rattle.abs_domain.specs.StartFormLemmas.{written_more}
use Rattle.abs_domain.proofs.StartRanges.{form_there, range_there}
use Rattle.abs_domain.proofs.starts.start_ranges.Goals as goal

pub loop-number-preserved : goal.loop-number-preserved
loop-number-preserved c =
    let n = c.loop-number.number in
    let form = form_there c.args.facts.now c.args.forms.now n _ c.requires c.loop-number-test.true c.index-forms-number.is in
    let is = range_there c.args.atoms.now c.args.facts.now n _ _ _ _ form c.stated_range.ensures c.range_of.ensures.rule c.computed_range.ensures in
    record {
      count = length-set c.loop-number.ranges n c.computed_range.result ∙ c.loop-number.invariant.count;
      ranges =
          written_more (λ (i : ℕ). computed_range (Some (stated_range c.args.facts.now i)) (range_of_form c.args.atoms.now (stated_form c.args.facts.now i)))
          n c.loop-number.ranges c.computed_range.result (omega (arith, c.loop-number.invariant.count, c.loop-number-test.true))
          c.loop-number.invariant.ranges is;
    }
