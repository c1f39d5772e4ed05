-- Each term adds the multiple of what stands in its atom's place.
use Rattle.std.proofs.Common.{arith, ap, sym, ◌∙◌, length}
use Rattle.linear_facts.specs.Forms.{Linear, sum_of, substituted}
use Rattle.linear_facts.specs.FormLemmas.{length-sum_of, within-is}
use Rattle.abs_domain.specs.RoomLemmas.{some_within}
use Rattle.abs_state.specs.SubstitutionLemmas.{sums_more, sums_done}
use Rattle.abs_state.proofs.edges.current_sum.Goals as goal

pub unwrap-sum-requires : goal.unwrap-sum-requires
unwrap-sum-requires c =
    some_within 64 (sum_of c.loop-term.sum c.replaced.result) c.add.result
    (omega (arith, length-sum_of c.loop-term.sum c.replaced.result, c.replaced.ensures.room, c.loop-term.invariant.room, c.requires, c.loop-term-test.true))
    c.add.ensures.sum

pub loop-term-preserved : goal.loop-term-preserved
loop-term-preserved c =
    let is_sum = within-is 64 _ _ (sym c.add.ensures.sum ∙ c.unwrap-sum.ensures) in
    record {
      rest =
          sums_more c.args.forms.now c.loop-term.sum c.unwrap-sum.result c.replaced.result c.args.terms.now c.loop-term.term-index _ _
          c.loop-term-test.true c.loop-term.invariant.rest c.replaced.ensures.product is_sum;
      room =
          omega (arith, ap (λ (f : Linear). length f.terms) is_sum, length-sum_of c.loop-term.sum c.replaced.result, c.replaced.ensures.room, c.loop-term.invariant.room);
    }

pub returns : goal.returns
unfolding substituted
returns c =
    sums_done c.args.forms.now c.loop-term.sum c.args.terms.now c.loop-term.term-index _ c.loop-term-test.false
    c.loop-term.invariant.rest
