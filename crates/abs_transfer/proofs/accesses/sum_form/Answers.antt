-- The sum is there, since it has room.
use Rattle.std.proofs.Common.{ap, sym, ◌∙◌}
use Rattle.linear_facts.specs.Forms.{number_form, sum_of}
use Rattle.linear_facts.specs.FormLemmas.{within-is}
use Rattle.abs_transfer.specs.Accesses.{sum_form}
use Rattle.abs_transfer.proofs.accesses.sum_form.Goals as goal

pub returns : goal.returns
unfolding sum_form
returns c =
    within-is _ _ _ (sym c.add.ensures.sum ∙ c.unwrap.ensures)
    ∙ ap (λ n. sum_of c.sum.result n) c.number.ensures
    ∙ ap (λ f. sum_of f (number_form c.args.n)) (c.sum.ensures ∙ ap (λ f. sum_of c.args.a.now f) c.multiple.ensures)
