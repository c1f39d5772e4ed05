-- Each multiple adds a term at most, and 2^64 to a coefficient.
use Rattle.std.proofs.Common.{arith, ◌∙◌, ◌+◌, ◌*◌, ◌^◌, List, length, subst, sym, ap, drop}
use Rattle.linear_facts.specs.Words.{WholeTerm}
use Rattle.linear_facts.specs.Sums.{AllAtMost, with_term}
use Rattle.linear_facts.specs.Differences.{with_multiples}
use Rattle.linear_facts.specs.SumLemmas.{at_most_at, at_most_more, at_most-with_term, length-with_term}
use Rattle.linear_facts.specs.DifferenceLemmas.{multiples-more, multiples-done}
use Rattle.linear_facts.proofs.differences.add_multiples.Goals as goal

pub multiple_term-requires-clause-plus : goal.multiple_term-requires-clause-plus
multiple_term-requires-clause-plus c = (at_most_at _ _ _ _ c.requires.small_more c.loop-term-test.true).0

pub multiple_term-requires-clause-minus : goal.multiple_term-requires-clause-minus
multiple_term-requires-clause-minus c = (at_most_at _ _ _ _ c.requires.small_more c.loop-term-test.true).1

pub add_term-requires-clause-small : goal.add_term-requires-clause-small
add_term-requires-clause-small c =
    at_most_more (2 ^ 90 + c.loop-term.term-index * 2 ^ 64) (2 ^ 100) _ (omega (arith, c.requires.few, c.loop-term-test.true))
    (c.loop-term.invariant.bound (2 ^ 90) c.requires.small)

pub loop-term-preserved : goal.loop-term-preserved
loop-term-preserved c =
    let blank : WholeTerm = record { atom = 0; plus = 0; minus = 0 } in
    record {
      rest =
          ap (λ l. with_multiples c.args.side c.args.k l (drop (c.loop-term.term-index + 1) c.args.more.now))
          (c.add_term.ensures ∙ ap (with_term c.loop-term.terms.items) c.multiple_term.ensures.term)
          ∙ (sym (multiples-more c.args.side c.args.k c.loop-term.terms.items c.args.more.now c.loop-term.term-index blank c.loop-term-test.true)
          ∙ c.loop-term.invariant.rest);
      count = omega (arith, ap length c.add_term.ensures, c.loop-term.invariant.count, length-with_term c.loop-term.terms.items c.multiple_term.result);
      bound = λ n small. subst (λ (l : List WholeTerm). AllAtMost (n + (c.loop-term.term-index + 1) * 2 ^ 64) l) (sym c.add_term.ensures)
          (at_most_more (n + c.loop-term.term-index * 2 ^ 64 + 2 ^ 64) _ _ (omega arith)
          (at_most-with_term _ (2 ^ 64) _ _ (c.loop-term.invariant.bound n small) c.multiple_term.ensures.plus c.multiple_term.ensures.minus));
    }

pub returns-clause-terms : goal.returns-clause-terms
returns-clause-terms c = sym (multiples-done _ _ _ _ _ c.loop-term-test.false) ∙ c.loop-term.invariant.rest

pub returns-clause-bound : goal.returns-clause-bound
returns-clause-bound c = λ n small.
    at_most_more (n + c.loop-term.term-index * 2 ^ 64) (n + 2 ^ 67) _ (omega (arith, c.requires.few)) (c.loop-term.invariant.bound n small)
