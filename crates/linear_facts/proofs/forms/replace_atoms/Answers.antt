-- Each term adds the multiple of what stands in its atom's place.
use Rattle.std.proofs.Common.{arith, ◌∙◌, ◌+◌, ap, sym, length, drop, Some}
use Rattle.linear_facts.specs.Forms.{Linear, sum_of, with_replaced}
use Rattle.linear_facts.specs.FormLemmas.{within-is, within-there, replaced-more, replaced-done, length-sum_of}
use Rattle.linear_facts.proofs.forms.replace_atoms.Goals as goal

pub returns-in_err-sum : goal.returns-in_err-sum
returns-in_err-sum c = absurd
    (within-there 64 _
    (omega (arith, length-sum_of c.loop-term.sum c.replaced.result, c.replaced.ensures.room, c.loop-term.invariant.room, c.requires.at_most_eight, c.loop-term-test.true))
    (sym c.in_err-sum.ensures.sum))

pub loop-term-preserved : goal.loop-term-preserved
loop-term-preserved c =
    let is_sum = within-is 64 _ c.in_ok-sum.sum (sym c.in_ok-sum.ensures.sum) in
    record {
      rest =
          ap (λ s. with_replaced c.args.forms.now s (drop (c.loop-term.term-index + 1) c.args.terms.now))
          (is_sum ∙ ap (λ p. sum_of c.loop-term.sum p) c.replaced.ensures.product)
          ∙ (sym (replaced-more c.args.forms.now c.loop-term.sum c.args.terms.now c.loop-term.term-index _ c.loop-term-test.true)
          ∙ c.loop-term.invariant.rest);
      room = omega (arith, ap (λ (f : Linear). length f.terms) is_sum, length-sum_of c.loop-term.sum c.replaced.result, c.replaced.ensures.room, c.loop-term.invariant.room);
    }

pub returns : goal.returns
returns c = ap Some
    (sym (replaced-done c.args.forms.now c.loop-term.sum c.args.terms.now c.loop-term.term-index c.loop-term-test.false)
    ∙ c.loop-term.invariant.rest)
