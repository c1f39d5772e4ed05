-- What was summed up is the form with its atoms replaced.
use Rattle.std.proofs.Common.{◌≡◌, ◌∙◌, ap, ℕ, List, Some}
use Rattle.linear_facts.specs.Words.{Term}
use Rattle.linear_facts.specs.Forms.{Linear, value, number_form, with_replaced, substituted, within}
use Rattle.linear_facts.specs.FormLemmas.{if-within, value-substituted}
use Rattle.linear_facts.proofs.forms.Form+8.substitute.Goals as goal

-- the sum of the replaced parts
replaced_parts : (forms : List Linear) (f start sum : Linear) (a : ℕ) (ts us : List Term)
    → record { constant = a; terms = ts } ≡ f → us ≡ ts → start ≡ number_form a → Some sum ≡ Some (with_replaced forms start us)
    → sum ≡ substituted forms f
unfolding substituted
replaced_parts forms f start sum a ts us is_f is_terms is_start is_sum = cc

pub returns-clause-substituted : goal.returns-clause-substituted
returns-clause-substituted g c =
    c.resize.ensures ∙ ap (within g.row.R)
    (replaced_parts _ _ _ _ _ _ _ c.self.view_is c.as_slice.ensures.value c.number.ensures c.in_ok-replace_atoms.ensures)

pub returns-clause-meaning : goal.returns-clause-meaning
returns-clause-meaning g c = λ v.
    if-within g.row.R _ _ _ c.resize.ensures
    (ap (value v) (replaced_parts _ _ _ _ _ _ _ c.self.view_is c.as_slice.ensures.value c.number.ensures c.in_ok-replace_atoms.ensures)
    ∙ value-substituted v c.args.forms.now c.args.self.now)
