-- Each step moves the front of what is left over to what is merged.
use Rattle.std.proofs.Common.{arith, inl, inr}
use Rattle.linear_facts.specs.MergingLemmas.{heads-less, heads-greater, heads-same, no_room, moved, no_room_first, no_room_second, all_merged, none_is_right}
use Rattle.linear_facts.proofs.forms.merge.Goals as goal
use Rattle.linear_facts.proofs.forms.merge.Goals.{then-heads-test+else-j-b, else-heads-test}

pub heads-preserved-then-x-y : goal.heads-preserved-then-x-y
heads-preserved-then-x-y g c = record {
  a_left = omega arith;
  b_left = omega arith;
  rest = moved c.heads.terms.items _ _ _ _ c.push.new.terms.items c.in_ok-push.ensures.pushed
      (heads-less _ _ _ _ _ _ c.heads-test.true c.if-j-b.true c.if-x-y.true) c.heads.invariant.rest;
}

pub returns-in_err-push-clause-terms : goal.returns-in_err-push-clause-terms
returns-in_err-push-clause-terms g c = none_is_right _ _ _ c.from_residual.ensures
    (no_room _ c.heads.terms.items _ _ _ _ c.in_err-push.ensures.full
    (heads-less _ _ _ _ _ _ c.heads-test.true c.if-j-b.true c.if-x-y.true) c.heads.invariant.rest)

pub heads-preserved-then-y-x : goal.heads-preserved-then-y-x
heads-preserved-then-y-x g c = record {
  a_left = omega arith;
  b_left = omega arith;
  rest = moved c.heads.terms.items _ _ _ _ _ c.in_ok-push-2.ensures.pushed
      (heads-greater _ _ _ _ _ _ c.heads-test.true c.if-j-b.true c.if-y-x.true) c.heads.invariant.rest;
}

pub returns-in_err-push-2-clause-terms : goal.returns-in_err-push-2-clause-terms
returns-in_err-push-2-clause-terms g c = none_is_right _ _ _ c.from_residual-in_err-push-2.ensures
    (no_room _ c.heads.terms.items _ _ _ _ c.in_err-push-2.ensures.full
    (heads-greater _ _ _ _ _ _ c.heads-test.true c.if-j-b.true c.if-y-x.true) c.heads.invariant.rest)

pub heads-preserved : goal.heads-preserved
heads-preserved g c = record {
  a_left = omega arith;
  b_left = omega arith;
  rest = moved c.heads.terms.items _ _ _ _ _ c.in_ok-push_unless_zero.ensures.pushed
      (heads-same _ _ _ _ _ _ c.heads-test.true c.if-j-b.true c.if-x-y.false c.if-y-x.false) c.heads.invariant.rest;
}

pub returns-in_err-push_unless_zero-clause-terms : goal.returns-in_err-push_unless_zero-clause-terms
returns-in_err-push_unless_zero-clause-terms g c = none_is_right _ _ _ c.from_residual-in_err-push_unless_zero.ensures
    (no_room _ c.heads.terms.items _ _ _ _ c.in_err-push_unless_zero.ensures.full
    (heads-same _ _ _ _ _ _ c.heads-test.true c.if-j-b.true c.if-x-y.false c.if-y-x.false) c.heads.invariant.rest)

pub returns-in_err-extend-clause-terms : goal.returns-in_err-extend-clause-terms
returns-in_err-extend-clause-terms g c = none_is_right _ _ _ c.from_residual-in_err-extend.ensures
    (no_room_first c.args.a.now c.args.b.now c.heads.terms.items c.heads.i c.heads.j
    (elim c.heads-test.branch [ then-heads-test+else-j-b w ↦ inr w.if-j-b.false | else-heads-test w ↦ inl w.heads-test.false ])
    c.heads.invariant.rest _ c.in_err-extend.ensures.full)

pub returns-in_err-extend-2-clause-terms : goal.returns-in_err-extend-2-clause-terms
returns-in_err-extend-2-clause-terms g c = none_is_right _ _ _ c.from_residual-in_err-extend-2.ensures
    (no_room_second c.args.a.now c.args.b.now c.heads.terms.items c.heads.i c.heads.j
    (elim c.heads-test.branch [ then-heads-test+else-j-b w ↦ inr w.if-j-b.false | else-heads-test w ↦ inl w.heads-test.false ])
    c.heads.invariant.rest c.extend.new.terms.items c.in_ok-extend.ensures.extended _ c.in_err-extend-2.ensures.full)

pub returns-clause-terms : goal.returns-clause-terms
returns-clause-terms g c =
    all_merged c.args.a.now c.args.b.now c.heads.terms.items c.heads.i c.heads.j
    (elim c.heads-test.branch [ then-heads-test+else-j-b w ↦ inr w.if-j-b.false | else-heads-test w ↦ inl w.heads-test.false ])
    c.heads.invariant.rest c.extend.new.terms.items c.in_ok-extend.ensures.extended _ c.in_ok-extend-2.ensures.extended
