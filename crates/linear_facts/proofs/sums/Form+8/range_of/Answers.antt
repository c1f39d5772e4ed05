-- The value lies in the range of the form.
use Rattle.std.proofs.Common.{◌≡◌, ◌≤◌, ◌∙◌, ℕ, List, length, subst, sym, ap, Option, IfSome}
use Rattle.linear_facts.specs.Words.{Term, Range, Interval}
use Rattle.linear_facts.specs.Forms.{Linear, RisesFrom, value}
use Rattle.linear_facts.specs.Ranges.{AtomTable, IsIn}
use Rattle.linear_facts.specs.Sums.{form_interval, range_within, range_of_form}
use Rattle.linear_facts.specs.RangeLemmas.{range_of_form-holds}
use Rattle.linear_facts.proofs.sums.Form+8.range_of.Goals as goal

-- the range by the form's parts
by_parts : (table : AtomTable) (f : Linear) (a : ℕ) (ts us : List Term) (i : Interval) (r : Option Range)
    → record { constant = a; terms = ts } ≡ f → us ≡ ts → i ≡ form_interval table record { constant = a; terms = us }
    → r ≡ range_within i → r ≡ range_of_form table f
unfolding range_of_form
by_parts table f a ts us i r is_f is_terms is_i is_r =
    is_r ∙ ap range_within (is_i ∙ ap (form_interval table) (ap (λ (l : List Term). record { constant = a; terms = l }) is_terms ∙ is_f))

pub returns-clause-holds : goal.returns-clause-holds
returns-clause-holds c = λ v agrees.
    subst (λ (o : Option Range). IfSome o (λ r. IsIn r (value v c.args.self.now)))
    (sym (by_parts _ _ _ _ _ _ _ c.self.view_is c.as_slice.ensures.value c.interval_of_terms.ensures.interval c.range_in.ensures))
    (range_of_form-holds c.args.atoms.now c.args.self.now v agrees
    (subst (λ (f : Linear). RisesFrom 0 f.terms) c.self.view_is c.self.invariant.rises)
    (subst (λ (f : Linear). length f.terms ≤ 8) c.self.view_is c.self.invariant.has_room))
