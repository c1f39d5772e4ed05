-- Where no atom is split, the terms that are split are the form's own.
use Rattle.std.proofs.Common.{◌∙◌, sym}
use Rattle.linear_facts.specs.RangeLemmas.{form_interval-unsplit}
use Rattle.linear_facts.proofs.sums.interval_of_terms.Goals as goal

pub returns-else-some_split-clause-interval : goal.returns-else-some_split-clause-interval
returns-else-some_split-clause-interval c =
    c.own_interval.ensures.interval
    ∙ form_interval-unsplit c.args.atoms.now c.args.constant c.args.terms.now c.requires.few c.requires.rises
    (sym c.some_split.ensures ∙ c.if-some_split.false)
