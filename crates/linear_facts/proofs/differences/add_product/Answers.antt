-- The product's terms and its number, by the form's parts.
use Rattle.std.proofs.Common.{◌∙◌, ◌+◌, ◌^◌, List, map, subst, sym, ap}
use Rattle.linear_facts.specs.Words.{WholeTerm}
use Rattle.linear_facts.specs.Sums.{AllAtMost, signed_term}
use Rattle.linear_facts.specs.Differences.{WholeSum}
use Rattle.linear_facts.specs.DifferenceLemmas.{product-parts, terms_kept}
use Rattle.linear_facts.proofs.differences.add_product.Goals as goal

pub returns-clause-sum : goal.returns-clause-sum
returns-clause-sum c =
    c.add_number.ensures.sum
    ∙ product-parts c.args.atoms.now c.args.side _ _ _ _ _ c.form.view_is c.product.view_is
    _ _ _ _ _ _ _ _ _ _ _ c.sum.view_is c.base_of_form-base.ensures.base c.from.ensures c.saturating_sub.ensures c.saturating_sub-minus.ensures
    (c.signed_terms-signed.ensures.terms ∙ ap (map signed_term) c.as_slice.ensures.value) c.as_slice-2.ensures.value c.add_multiples.ensures.terms

pub returns-clause-bound : goal.returns-clause-bound
returns-clause-bound c = λ n small.
    subst (λ (l : List WholeTerm). AllAtMost (n + 2 ^ 67) l)
    (sym (ap (λ (s : WholeSum). s.terms) c.add_number.ensures.sum ∙ terms_kept c.args.side _ _ _ _))
    (c.add_multiples.ensures.bound n (subst (λ (s : WholeSum). AllAtMost n s.terms) (sym c.sum.view_is) small))
