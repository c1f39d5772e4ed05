-- The term is added at its atom's place, or put last.
use Rattle.std.proofs.Common.{arith, ◌∙◌, ◌==◌, ap, sym, position}
use Rattle.linear_facts.specs.Words.{WholeTerm}
use Rattle.linear_facts.specs.SumLemmas.{place_fits, set_there, with_term-new}
use Rattle.linear_facts.proofs.sums.add_term.Goals as goal

pub overflow_add-other : goal.overflow_add-other
overflow_add-other c = omega (
  arith,
  c.requires.plus,
  (place_fits _ _ _ c.in-Some.i c.args.term c.as_slice.ensures.value c.as_slice-in-Some.ensures.value (sym c.in-Some.ensures) c.requires.small).0,
)

pub overflow_add-other-in-Some : goal.overflow_add-other-in-Some
overflow_add-other-in-Some c = omega (
  arith,
  c.requires.minus,
  (place_fits _ _ _ c.in-Some.i c.args.term c.as_slice.ensures.value c.as_slice-in-Some.ensures.value (sym c.in-Some.ensures) c.requires.small).1,
)

pub returns-in-Some : goal.returns-in-Some
returns-in-Some c =
    set_there _ _ _ c.in-Some.i c.args.term c.as_slice.ensures.value c.as_slice-in-Some.ensures.value (sym c.in-Some.ensures) _ c.as_mut_slice.ensures.value

pub returns-in-None : goal.returns-in-None
returns-in-None c = c.push.ensures.items ∙ sym (with_term-new _ _ (ap (position (λ (u : WholeTerm). u.atom == c.args.term.atom)) (sym c.as_slice.ensures.value) ∙ sym c.in-None.ensures))
