use Rattle.std.proofs.Common.{◌≡◌, ◌∙◌, ◌||◌, ◌&&◌, false, ap, get_or, map, length, refl, arith}
use lib.Lanes.{zip2}
use Rattle.std.proofs.lemmas.List.{length-map}
use Rattle.std.proofs.lemmas.Simd.{length-zip2}
use Rattle.lane_fixed.specs.FixedPoint.{element, saturates}
use Rattle.lane_fixed.proofs.KernelLemmas.{number_at, still_old, one_done, all_done, flag_done}
use Rattle.lane_fixed.proofs.kernels.compute_each.Goals as goal

pub loop-i-init : goal.loop-i-init
loop-i-init g c = (refl, refl)

pub loop-i-preserved : goal.loop-i-preserved
loop-i-preserved g c =
    let number = g.T.FixedLane.number in
    let xs = map number c.args.values.now in
    let f = element c.args.op c.args.mode g.T.FixedLane.width in
    let long_x : length xs ≡ length c.args.values.now = length-map c.args.values.now number in
    let long_y : length (map number c.args.b.now) ≡ length c.args.b.now = length-map c.args.b.now number in
    let whole : length (zip2 f xs (map number c.args.b.now)) ≡ length xs = length-zip2 f xs (map number c.args.b.now) (omega (arith, c.requires.b_len)) in
    let x = still_old number (zip2 f xs (map number c.args.b.now)) xs c.loop-i.values c.loop-i.i c.index-values-i.result c.loop-i.invariant.0 (omega arith) whole (omega (arith, c.loop-i.auto.values)) c.index-values-i.is in
    let y = number_at number c.args.b.now c.loop-i.i c.index-b-i.result (omega (arith, c.requires.b_len)) c.index-b-i.is in
    one_done number number number f (saturates c.args.op c.args.mode g.T.FixedLane.width) c.args.values.now c.args.b.now c.args.active.now c.args.values.now c.loop-i.values c.loop-i.i
    c.index-values-i.result c.index-b-i.result c.fixed-value.result.0 c.loop-i.is_saturated c.or_active-is_saturated.result (omega arith) refl c.requires.b_len c.requires.active_len x y c.fixed-value.ensures.value
    (c.or_active-is_saturated.ensures ∙ ap (λ s. c.loop-i.is_saturated || (get_or c.args.active.now c.loop-i.i false && s)) c.fixed-value.ensures.saturated) c.loop-i.invariant.0 c.loop-i.invariant.1

pub returns-clause-results : goal.returns-clause-results
returns-clause-results g c =
    all_done g.T.FixedLane.number g.T.FixedLane.number g.T.FixedLane.number (element c.args.op c.args.mode g.T.FixedLane.width) c.args.values.now c.args.b.now c.args.values.now c.loop-i.values c.loop-i.i (omega arith) refl c.requires.b_len c.loop-i.invariant.0

pub returns-clause-saturated : goal.returns-clause-saturated
returns-clause-saturated g c =
    flag_done g.T.FixedLane.number g.T.FixedLane.number (saturates c.args.op c.args.mode g.T.FixedLane.width) c.args.values.now c.args.b.now c.args.active.now c.loop-i.i c.loop-i.is_saturated (omega arith) c.requires.b_len c.requires.active_len c.loop-i.invariant.1
