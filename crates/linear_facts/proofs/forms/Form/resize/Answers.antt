-- All terms are there, or there is no room for them.
use Rattle.std.proofs.Common.{◌≡◌, ◌∙◌, ap, subst, List, length, ◌++◌, ◌<◌, []}
use Rattle.linear_facts.specs.Words.{Term}
use Rattle.linear_facts.specs.Forms.{Linear}
use Rattle.linear_facts.specs.FormLemmas.{within-some, within-none}
use Rattle.linear_facts.proofs.forms.Form.resize.Goals as goal

-- what was appended to nothing
appended : (start more all : List Term) → start ≡ [] → more ≡ all → start ++ more ≡ all
appended start more all e e' = ap (λ l. l ++ more) e ∙ e'

pub returns-in_err-extend : goal.returns-in_err-extend
returns-in_err-extend g c = within-none _ _ _ c.from_residual.ensures
    (subst (λ (l : List Term). g.row.R < length l)
    (appended _ _ _ c.new-terms.ensures (c.as_slice.ensures.value ∙ ap (λ (f : Linear). f.terms) c.self.view_is)) c.in_err-extend.ensures.full)

pub returns : goal.returns
returns g c = within-some _ _ _
    (ap (λ (l : List Term). record { constant = c.self.inside.constant; terms = l })
    (c.in_ok-extend.ensures.extended ∙ appended _ _ _ c.new-terms.ensures c.as_slice.ensures.value) ∙ c.self.view_is)
    c.in_ok-extend.ensures.room
