-- A difference whose lower bound is at least 0 is not negative.
use Rattle.std.proofs.Common.{◌∙◌, ap, sym}
use Rattle.linear_facts.specs.Differences.{is_positive}
use Rattle.linear_facts.specs.DifferenceLemmas.{difference-holds}
use Rattle.linear_facts.proofs.differences.is_at_least.Goals as goal

pub returns-clause-holds : goal.returns-clause-holds
returns-clause-holds c = λ v agrees positive.
    difference-holds c.args.atoms.now v agrees _ _ _ _ c.difference.ensures.more_forms c.difference.ensures.less_forms
    (sym c.have_ranges.ensures ∙ c.if-not-have_ranges.false) (sym c.have_ranges-2.ensures ∙ c.if-not-have_ranges-2.false)
    (ap (is_positive c.args.atoms.now) (sym c.difference.ensures.sum) ∙ (sym c.is_positive.ensures ∙ positive))
