-- Each step moves the multiple of the next term over to what is scaled.
use Rattle.linear_facts.specs.MergingLemmas.{scaled-more, no_room, moved, none_is_right, scaled-done}
use Rattle.linear_facts.proofs.forms.scale_terms.Goals as goal

pub loop-term-preserved : goal.loop-term-preserved
loop-term-preserved g c = record {
  rest = moved c.loop-term.scaled.items _ _ _ _ c.push_unless_zero.new.terms.items c.in_ok-push_unless_zero.ensures.pushed
      (scaled-more _ _ _ _ c.loop-term-test.true) c.loop-term.invariant.rest;
  room = c.in_ok-push_unless_zero.ensures.room c.loop-term.invariant.room;
}

pub returns-in_err-push_unless_zero-clause-terms : goal.returns-in_err-push_unless_zero-clause-terms
returns-in_err-push_unless_zero-clause-terms g c = none_is_right _ _ _ c.from_residual.ensures
    (no_room _ c.loop-term.scaled.items _ _ _ _ c.in_err-push_unless_zero.ensures.full
    (scaled-more _ _ _ _ c.loop-term-test.true) c.loop-term.invariant.rest)

pub returns-clause-terms : goal.returns-clause-terms
returns-clause-terms g c = scaled-done _ c.loop-term.scaled.items _ _ c.loop-term-test.false c.loop-term.invariant.rest
