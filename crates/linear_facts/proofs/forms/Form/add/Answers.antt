-- The parts of the sum are the merge's.
use Rattle.std.proofs.Common.{arith, ◌∙◌, ap, subst, List, length, ◌<◌}
use Rattle.linear_facts.specs.Words.{Term}
use Rattle.linear_facts.specs.Forms.{value}
use Rattle.linear_facts.specs.FormLemmas.{within-some, within-none, sum_of-parts, IsForm-parts, sum_of-over, length-merged, value-sum_of, merged_at}
use Rattle.linear_facts.proofs.forms.Form.add.Goals as goal

pub returns-in_err-merge-clause-sum : goal.returns-in_err-merge-clause-sum
returns-in_err-merge-clause-sum g c = within-none _ _ _ c.from_residual.ensures
    (sum_of-over _ _ _ _ _ _ c.self.view_is c.other.view_is _
    (subst (λ (l : List Term). g.row.R < length l) (merged_at _ _ _ _ c.as_slice.ensures.value c.as_slice-2.ensures.value)
    c.in_err-merge.ensures.terms))

pub invariant_of-result : goal.invariant_of-result
invariant_of-result g c =
    IsForm-parts _ _ _ _ _ _ _ c.self.view_is c.other.view_is
    (c.in_ok-merge.ensures.terms ∙ merged_at _ _ _ _ c.as_slice.ensures.value c.as_slice-2.ensures.value)
    _ c.self.invariant.rises c.other.invariant.rises c.in_ok-merge.ensures.room

pub returns-clause-sum : goal.returns-clause-sum
returns-clause-sum g c = within-some _ _ _
    (sum_of-parts _ _ _ _ _ _ _ c.self.view_is c.other.view_is
    (c.in_ok-merge.ensures.terms ∙ merged_at _ _ _ _ c.as_slice.ensures.value c.as_slice-2.ensures.value))
    c.in_ok-merge.ensures.room

pub returns-clause-meaning : goal.returns-clause-meaning
returns-clause-meaning g c = λ v.
    ap (value v) (sum_of-parts _ _ _ _ _ _ _ c.self.view_is c.other.view_is
    (c.in_ok-merge.ensures.terms ∙ merged_at _ _ _ _ c.as_slice.ensures.value c.as_slice-2.ensures.value))
    ∙ value-sum_of v c.args.self.now c.args.other.now

pub returns-in_err-merge-clause-fits : goal.returns-in_err-merge-clause-fits
returns-in_err-merge-clause-fits g c = λ enough. absurd
    (omega (
      arith,
      c.in_err-merge.ensures.terms,
      length-merged c.as_slice.result.now c.as_slice-2.result.now,
      ap length c.as_slice.ensures.value,
      ap length c.as_slice-2.ensures.value,
      c.self.invariant.has_room,
      c.other.invariant.has_room,
      enough,
    ))
