-- Each term moves both ends by its share.
use Rattle.std.proofs.Common.{arith, ◌∙◌, ap, sym, get_or, map}
use Rattle.linear_facts.specs.Words.{Range, Lo, Hi, Added, Taken}
use Rattle.linear_facts.specs.Sums.{signed_term, ends}
use Rattle.linear_facts.specs.SumLemmas.{signed_shares-more, signed_shares-done, signed_atom, next_end, own-done}
use Rattle.linear_facts.proofs.sums.own_interval.Goals as goal

pub loop-term-preserved : goal.loop-term-preserved
loop-term-preserved c =
    let atom = sym (signed_atom (get_or c.args.terms.now c.loop-term.term-index record { atom = 0; coefficient = 0 })) in
    let low = ap (λ (r : Range). r.lo) c.range-range.ensures ∙ ap (ends c.args.atoms.now Lo) atom in
    let high = ap (λ (r : Range). r.hi) c.range-range.ensures ∙ ap (ends c.args.atoms.now Hi) atom in
    record {
      lo = next_end _ _ _ _ _ _ _ _ _ _ _ _ _ _ c.end_with_term-lo.ensures.sum
          (signed_shares-more Added _ _ _ _ c.loop-term-test.true) (signed_shares-more Taken _ _ _ _ c.loop-term-test.true) low high c.loop-term.invariant.lo;
      hi = next_end _ _ _ _ _ _ _ _ _ _ _ _ _ _ c.end_with_term-hi.ensures.sum
          (signed_shares-more Added _ _ _ _ c.loop-term-test.true) (signed_shares-more Taken _ _ _ _ c.loop-term-test.true) high low c.loop-term.invariant.hi;
      lo_low = omega (arith, c.loop-term.invariant.lo_low, c.end_with_term-lo.ensures.low);
      lo_high = omega (arith, c.loop-term.invariant.lo_high, c.end_with_term-lo.ensures.high);
      hi_low = omega (arith, c.loop-term.invariant.hi_low, c.end_with_term-hi.ensures.low);
      hi_high = omega (arith, c.loop-term.invariant.hi_high, c.end_with_term-hi.ensures.high);
    }

pub returns-clause-interval : goal.returns-clause-interval
returns-clause-interval c =
    own-done c.args.atoms.now c.args.constant c.loop-term.lo c.loop-term.hi (map signed_term c.args.terms.now)
    (omega (arith, c.loop-term.invariant.lo, signed_shares-done Added (ends c.args.atoms.now Lo) _ _ c.loop-term-test.false, signed_shares-done Taken (ends c.args.atoms.now Hi) _ _ c.loop-term-test.false))
    (omega (arith, c.loop-term.invariant.hi, signed_shares-done Added (ends c.args.atoms.now Hi) _ _ c.loop-term-test.false, signed_shares-done Taken (ends c.args.atoms.now Lo) _ _ c.loop-term-test.false))
