-- The parts of the multiple are the scaled terms.
use Rattle.std.proofs.Common.{arith, ◌∙◌, ap, subst, List, length, ◌<◌}
use Rattle.linear_facts.specs.Words.{Term}
use Rattle.linear_facts.specs.Forms.{value, scaled_terms}
use Rattle.linear_facts.specs.FormLemmas.{within-some, within-none, scaled-parts, IsForm-scaled, scaled-over, value-scaled, length-scaled_terms}
use Rattle.linear_facts.proofs.forms.Form.scale.Goals as goal

pub returns-in_err-scale_terms-clause-product : goal.returns-in_err-scale_terms-clause-product
returns-in_err-scale_terms-clause-product g c = within-none _ _ _ c.from_residual.ensures
    (scaled-over _ _ _ _ c.self.view_is _
    (subst (λ (l : List Term). g.row.R < length l) (ap (scaled_terms c.args.k) c.as_slice.ensures.value)
    c.in_err-scale_terms.ensures.terms))

pub invariant_of-result : goal.invariant_of-result
invariant_of-result g c =
    IsForm-scaled _ _ _ _ _ c.self.view_is
    (c.in_ok-scale_terms.ensures.terms ∙ ap (scaled_terms c.args.k) c.as_slice.ensures.value)
    _ c.self.invariant.rises c.in_ok-scale_terms.ensures.room

pub returns-clause-product : goal.returns-clause-product
returns-clause-product g c = within-some _ _ _
    (scaled-parts _ _ _ _ _ c.self.view_is
    (c.in_ok-scale_terms.ensures.terms ∙ ap (scaled_terms c.args.k) c.as_slice.ensures.value))
    c.in_ok-scale_terms.ensures.room

pub returns-clause-meaning : goal.returns-clause-meaning
returns-clause-meaning g c = λ v.
    ap (value v) (scaled-parts _ _ _ _ _ c.self.view_is
    (c.in_ok-scale_terms.ensures.terms ∙ ap (scaled_terms c.args.k) c.as_slice.ensures.value))
    ∙ value-scaled v c.args.k c.args.self.now

pub returns-in_err-scale_terms-clause-fits : goal.returns-in_err-scale_terms-clause-fits
returns-in_err-scale_terms-clause-fits g c = λ enough. absurd
    (omega (arith, c.in_err-scale_terms.ensures.terms, length-scaled_terms c.args.k c.as_slice.result.now, ap length c.as_slice.ensures.value, c.self.invariant.has_room, enough))
