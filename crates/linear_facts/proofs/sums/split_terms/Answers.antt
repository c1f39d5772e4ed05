-- Each term makes the list longer by two and the coefficients larger by 2^33 at most.
use Rattle.std.proofs.Common.{arith, ◌∙◌, ◌+◌, ◌*◌, ◌^◌, List, length, subst, sym, ap, drop, get_or}
use Rattle.linear_facts.specs.Words.{WholeTerm}
use Rattle.linear_facts.specs.Ranges.{split_at}
use Rattle.linear_facts.specs.Sums.{AllAtMost, with_split}
use Rattle.linear_facts.specs.SumLemmas.{at_most_at, at_most_more, at_most-with_parts, length-with_parts, split-more, split-done}
use Rattle.linear_facts.proofs.sums.split_terms.Goals as goal

pub add_parts-requires-clause-small : goal.add_parts-requires-clause-small
add_parts-requires-clause-small c = at_most_more (c.loop-term.term-index * 2 ^ 69) (2 ^ 80) _ (omega (arith, c.requires.few, c.loop-term-test.true)) c.loop-term.invariant.small

pub add_parts-requires-clause-plus : goal.add_parts-requires-clause-plus
add_parts-requires-clause-plus c = omega (arith, (at_most_at _ _ _ record { atom = 0; plus = 0; minus = 0 } c.requires.small c.loop-term-test.true).0)

pub add_parts-requires-clause-minus : goal.add_parts-requires-clause-minus
add_parts-requires-clause-minus c = omega (arith, (at_most_at _ _ _ record { atom = 0; plus = 0; minus = 0 } c.requires.small c.loop-term-test.true).1)

pub loop-term-preserved : goal.loop-term-preserved
loop-term-preserved c =
    let t = at_most_at _ _ _ record { atom = 0; plus = 0; minus = 0 } c.requires.small c.loop-term-test.true in
    record {
      rest =
          ap (λ l. with_split c.args.atoms.now l (drop (c.loop-term.term-index + 1) c.args.terms.now)) c.add_parts.ensures
          ∙ (sym (split-more c.args.atoms.now c.loop-term.replaced.items c.args.terms.now c.loop-term.term-index record { atom = 0; plus = 0; minus = 0 } c.loop-term-test.true)
          ∙ c.loop-term.invariant.rest);
      few = omega (
        arith,
        ap length c.add_parts.ensures,
        c.loop-term.invariant.few,
        length-with_parts c.loop-term.replaced.items (get_or c.args.terms.now c.loop-term.term-index record { atom = 0; plus = 0; minus = 0 })
            (split_at c.args.atoms.now (get_or c.args.terms.now c.loop-term.term-index record { atom = 0; plus = 0; minus = 0 }).atom),
      );
      small = subst (λ (l : List WholeTerm). AllAtMost ((c.loop-term.term-index + 1) * 2 ^ 69) l) (sym c.add_parts.ensures)
          (at_most_more (c.loop-term.term-index * 2 ^ 69 + 2 * 2 ^ 68) _ _ (omega arith)
          (at_most-with_parts _ _ _ (2 ^ 68) _ c.loop-term.invariant.small t.0 t.1));
      close = λ closer.
          let u = at_most_at _ _ _ record { atom = 0; plus = 0; minus = 0 } closer c.loop-term-test.true in
          subst (λ (l : List WholeTerm). AllAtMost ((c.loop-term.term-index + 1) * 2 ^ 33) l) (sym c.add_parts.ensures)
          (at_most_more (c.loop-term.term-index * 2 ^ 33 + 2 * 2 ^ 32) _ _ (omega arith)
          (at_most-with_parts _ _ _ (2 ^ 32) _ (c.loop-term.invariant.close closer) u.0 u.1));
    }

pub returns-clause-terms : goal.returns-clause-terms
returns-clause-terms c = sym (split-done _ _ _ _ c.loop-term-test.false) ∙ c.loop-term.invariant.rest

pub returns-clause-small : goal.returns-clause-small
returns-clause-small c = at_most_more (c.loop-term.term-index * 2 ^ 69) (2 ^ 73) _ (omega (arith, c.requires.few)) c.loop-term.invariant.small

pub returns-clause-close : goal.returns-clause-close
returns-clause-close c = λ closer.
    at_most_more (c.loop-term.term-index * 2 ^ 33) (2 ^ 40) _ (omega (arith, c.requires.few)) (c.loop-term.invariant.close closer)
