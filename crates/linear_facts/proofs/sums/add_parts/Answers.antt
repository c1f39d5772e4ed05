-- Adding one part leaves room for the other.
use Rattle.std.proofs.Common.{arith, ◌+◌, ◌^◌, List, length, subst, sym, ap}
use Rattle.linear_facts.specs.Words.{WholeTerm}
use Rattle.linear_facts.specs.Sums.{AllAtMost}
use Rattle.linear_facts.specs.SumLemmas.{at_most_more, at_most-with_term, length-with_term}
use Rattle.linear_facts.proofs.sums.add_parts.Goals as goal

pub add_term-requires-clause-small : goal.add_term-requires-clause-small
add_term-requires-clause-small c = at_most_more (2 ^ 80) (2 ^ 100) _ (omega arith) c.requires.small

pub add_term-requires-in-Some-clause-room : goal.add_term-requires-in-Some-clause-room
add_term-requires-in-Some-clause-room c =
    omega (
      arith,
      ap length c.add_term.ensures,
      c.requires.room,
      length-with_term c.args.terms.now.items record { atom = c.in-Some.split.first; plus = c.args.term.plus; minus = c.args.term.minus },
    )

pub add_term-requires-in-Some-clause-small : goal.add_term-requires-in-Some-clause-small
add_term-requires-in-Some-clause-small c =
    subst (λ (l : List WholeTerm). AllAtMost (2 ^ 100) l) (sym c.add_term.ensures)
    (at_most_more (2 ^ 80 + 2 ^ 80) (2 ^ 100) _ (omega arith)
    (at_most-with_term (2 ^ 80) (2 ^ 80) _ _ c.requires.small c.requires.plus c.requires.minus))

pub add_term-requires-in-None-clause-small : goal.add_term-requires-in-None-clause-small
add_term-requires-in-None-clause-small c = at_most_more (2 ^ 80) (2 ^ 100) _ (omega arith) c.requires.small
