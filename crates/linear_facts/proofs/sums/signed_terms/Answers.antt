-- Signed coefficients of 32 bits are small.
use Rattle.std.proofs.Common.{◌^◌, List, subst, sym}
use Rattle.linear_facts.specs.Words.{WholeTerm}
use Rattle.linear_facts.specs.Sums.{AllAtMost}
use Rattle.linear_facts.specs.SumLemmas.{signed_at_most, signed-done}
use Rattle.linear_facts.proofs.sums.signed_terms.Goals as goal

pub returns-clause-small : goal.returns-clause-small
returns-clause-small c =
    subst (λ (l : List WholeTerm). AllAtMost (2 ^ 32) l)
    (sym (signed-done _ _ _ c.loop-term-test.false c.loop-term.invariant.rest)) (signed_at_most c.args.terms.now)
