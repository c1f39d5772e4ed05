use Rattle.abs_domain.specs.Starts.{entry_form}
use Rattle.abs_domain.specs.StartFormLemmas.{pushed_more}
use Rattle.abs_domain.proofs.starts.entry_forms.Goals as goal

pub loop-number-preserved : goal.loop-number-preserved
loop-number-preserved g c =
    pushed_more (entry_form c.args.parameters.now) c.loop-number.number _ _ _ c.loop-number.invariant c.entry_form.ensures
    c.in_ok-push.ensures.items
