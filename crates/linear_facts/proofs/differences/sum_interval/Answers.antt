-- Its terms are small enough for both intervals.
use Rattle.std.proofs.Common.{arith, ◌^◌, List, subst, sym}
use Rattle.std.proofs.lemmas.Grind.{common_steps}
use Rattle.linear_facts.specs.Words.{WholeTerm}
use Rattle.linear_facts.specs.Sums.{AllAtMost}
use Rattle.linear_facts.specs.Differences.{WholeSum, sum_interval}
use Rattle.linear_facts.specs.SumLemmas.{at_most_more}
use Rattle.linear_facts.proofs.differences.sum_interval.Goals as goal

pub interval_by_ends-own-requires-clause-small : goal.interval_by_ends-own-requires-clause-small
interval_by_ends-own-requires-clause-small c =
    subst (λ (l : List WholeTerm). AllAtMost (2 ^ 73) l) (sym c.as_slice-2.ensures.value)
    (at_most_more (2 ^ 68) (2 ^ 73) _ (omega arith) (subst (λ (s : WholeSum). AllAtMost (2 ^ 68) s.terms) (sym c.sum.view_is) c.requires.small))

pub returns : goal.returns
unfolding sum_interval
returns c = grind (arith, common_steps)
