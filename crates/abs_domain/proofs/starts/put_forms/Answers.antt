use Rattle.std.proofs.Common.{arith, ◌∙◌}
use Rattle.std.proofs.Math.ListN.{length-set}
use Rattle.abs_domain.specs.Starts.{stated_form}
use Rattle.abs_domain.specs.StartFormLemmas.{written_more}
use Rattle.abs_domain.proofs.starts.put_forms.Goals as goal

pub loop-number-preserved : goal.loop-number-preserved
loop-number-preserved g c = record {
  count = length-set c.loop-number.forms.items c.loop-number.number c.stated_form.result ∙ c.loop-number.invariant.count;
  forms =
      written_more (stated_form c.args.facts.now) c.loop-number.number c.loop-number.forms.items c.stated_form.result
      (omega (arith, c.loop-number.invariant.count, c.loop-number-test.true)) c.loop-number.invariant.forms c.stated_form.ensures;
}
