-- Each term's share is at most its coefficient times 2^32.
use Rattle.std.proofs.Common.{arith, ◌^◌}
use Rattle.linear_facts.specs.Sums.{ends}
use Rattle.linear_facts.specs.SumLemmas.{share_bound, next_share, shares-more, shares-done}
use Rattle.linear_facts.proofs.sums.sum_of_shares.Goals as goal

pub overflow_mul-sum : goal.overflow_mul-sum
overflow_mul-sum c = omega (
  arith,
  share_bound c.args.side (2 ^ 73) _ _ _ _ _ c.requires.small c.loop-term-test.true c.share.ensures c.end_of_range.ensures.fits,
)

pub overflow_add-sum : goal.overflow_add-sum
overflow_add-sum c = omega (
  arith,
  c.loop-term.invariant.bound,
  c.requires.few,
  c.loop-term-test.true,
  share_bound c.args.side (2 ^ 73) _ _ _ _ _ c.requires.small c.loop-term-test.true c.share.ensures c.end_of_range.ensures.fits,
)

pub loop-term-preserved : goal.loop-term-preserved
loop-term-preserved c = record {
  rest = next_share c.loop-term.sum _ _ _ _ _ _ _ c.share.ensures c.end_of_range.ensures.value
      (shares-more c.args.side _ _ _ _ c.loop-term-test.true) c.loop-term.invariant.rest;
  bound = omega (
    arith,
    c.loop-term.invariant.bound,
    share_bound c.args.side (2 ^ 73) _ _ _ _ _ c.requires.small c.loop-term-test.true c.share.ensures c.end_of_range.ensures.fits,
  );
  close = λ small. omega (
    arith,
    c.loop-term.invariant.close small,
    share_bound c.args.side (2 ^ 40) _ _ _ _ _ small c.loop-term-test.true c.share.ensures c.end_of_range.ensures.fits,
  );
}

pub returns-clause-sum : goal.returns-clause-sum
returns-clause-sum c = omega (
  arith,
  c.loop-term.invariant.rest,
  shares-done c.args.side (ends c.args.atoms.now c.args.end) c.args.terms.now c.loop-term.term-index c.loop-term-test.false,
)

pub returns-clause-close : goal.returns-clause-close
returns-clause-close c = λ small. omega (arith, c.loop-term.invariant.close small, c.requires.few)
