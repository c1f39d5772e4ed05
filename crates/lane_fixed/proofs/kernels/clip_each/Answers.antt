use Rattle.std.proofs.Common.{◌∙◌, ◌||◌, ◌&&◌, false, ap, get_or, refl, arith}
use Rattle.lane_fixed.specs.FixedPoint.{clip_element, clip_saturates}
use Rattle.lane_fixed.proofs.KernelLemmas.{number_at, one_done, all_done, flag_done}
use Rattle.lane_fixed.proofs.kernels.clip_each.Goals as goal

pub loop-i-init : goal.loop-i-init
loop-i-init g c = (refl, refl)

pub loop-i-preserved : goal.loop-i-preserved
loop-i-preserved g c =
    let x = number_at g.W.FixedLane.number c.args.a.now c.loop-i.i c.index-a-i.result (omega (arith, c.requires.a_len)) c.index-a-i.is in
    let y = number_at g.N.FixedLane.number c.args.b.now c.loop-i.i c.index-b-i.result (omega (arith, c.requires.b_len)) c.index-b-i.is in
    one_done g.W.FixedLane.number g.N.FixedLane.number g.N.FixedLane.number (clip_element c.args.op c.args.mode g.W.FixedLane.width g.N.FixedLane.width) (clip_saturates c.args.op c.args.mode g.W.FixedLane.width g.N.FixedLane.width) c.args.a.now c.args.b.now c.args.active.now c.args.results.now c.loop-i.results c.loop-i.i
    c.index-a-i.result c.index-b-i.result c.narrowed-value.result.0 c.loop-i.is_saturated c.or_active-is_saturated.result (omega arith) c.requires.a_len c.requires.b_len c.requires.active_len x y c.narrowed-value.ensures.value
    (c.or_active-is_saturated.ensures ∙ ap (λ s. c.loop-i.is_saturated || (get_or c.args.active.now c.loop-i.i false && s)) c.narrowed-value.ensures.saturated) c.loop-i.invariant.0 c.loop-i.invariant.1

pub returns-clause-results : goal.returns-clause-results
returns-clause-results g c =
    all_done g.W.FixedLane.number g.N.FixedLane.number g.N.FixedLane.number (clip_element c.args.op c.args.mode g.W.FixedLane.width g.N.FixedLane.width) c.args.a.now c.args.b.now c.args.results.now c.loop-i.results c.loop-i.i (omega arith) c.requires.a_len c.requires.b_len c.loop-i.invariant.0

pub returns-clause-saturated : goal.returns-clause-saturated
returns-clause-saturated g c =
    flag_done g.W.FixedLane.number g.N.FixedLane.number (clip_saturates c.args.op c.args.mode g.W.FixedLane.width g.N.FixedLane.width) c.args.a.now c.args.b.now c.args.active.now c.loop-i.i c.loop-i.is_saturated (omega (arith, c.requires.a_len)) (omega (arith, c.requires.a_len, c.requires.b_len)) (omega (arith, c.requires.a_len, c.requires.active_len)) c.loop-i.invariant.1
