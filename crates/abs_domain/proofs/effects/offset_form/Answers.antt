-- The sum is there, since it has room.
use Rattle.std.proofs.Common.{ap, sym, ◌∙◌}
use Rattle.linear_facts.specs.Forms.{sum_of}
use Rattle.linear_facts.specs.FormLemmas.{within-is}
use Rattle.abs_domain.specs.Effects.{offset_form}
use Rattle.abs_domain.proofs.effects.offset_form.Goals as goal

pub returns : goal.returns
unfolding offset_form
returns c =
    within-is _ _ _ (sym c.add.ensures.sum ∙ c.unwrap.ensures) ∙ ap (λ n. sum_of c.args.form.now n) c.number.ensures
