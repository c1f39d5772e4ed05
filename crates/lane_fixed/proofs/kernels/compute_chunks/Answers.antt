use Rattle.std.proofs.Common.{◌≡◌, ◌∙◌, ◌+◌, ◌≤◌, ◌||◌, ◌&&◌, false, ap, ap₂, sym, get_or, map, length, refl, arith}
use lib.Lanes.{zip2}
use Rattle.std.proofs.lemmas.List.{length-map, length-set}
use Rattle.std.proofs.lemmas.Simd.{length-put_chunk, length-zip2}
use Rattle.lane_fixed.specs.FixedPoint.{element, saturates}
use Rattle.lane_fixed.specs.Chunks.{lane_result, lane_saturates}
use Rattle.lane_fixed.proofs.KernelLemmas.{number_at, still_old, written_over, one_more, all_done, flag_done}
use Rattle.lane_fixed.proofs.ChunkKernelLemmas.{chunk_any, chunk_written}
use Rattle.lane_fixed.proofs.kernels.compute_chunks.Goals as goal

pub loop-values-preserved : goal.loop-values-preserved
loop-values-preserved g c =
    let number = g.T.FixedLane.number in
    let xs = map number c.args.values.now in
    let ys = map number c.args.b.now in
    let now = map number c.loop-values.values in
    let new = map number c.chunk-is_saturated.new.values in
    let f = lane_result c.args.op g.T.FixedLane.width in
    let at = c.loop-values.at in
    let m = c.loop-values.at + c.count-at.result in
    let same_length = c.loop-values.invariant.1 in
    let long_x : length xs ≡ length c.args.values.now = length-map c.args.values.now number in
    let long_y : length ys ≡ length c.args.b.now = length-map c.args.b.now number in
    let long : length c.chunk-is_saturated.new.values ≡ length c.loop-values.values =
    sym (length-map c.chunk-is_saturated.new.values number) ∙ ap length c.chunk-is_saturated.ensures.results ∙ length-put_chunk at now _ ∙ length-map c.loop-values.values number in
    let is : m ≡ at + g.T.FixedLane.count = omega (arith, c.count-at.ensures.meaning) in
    let inside : m ≤ length c.loop-values.values = omega (arith, c.count-at.ensures.meaning, c.count.ensures.meaning, c.loop-values-test.true, c.loop-values.invariant.0) in
    let le : m ≤ length xs = omega (arith, inside, same_length, long_x) in
    let same : length ys ≡ length xs = omega (arith, long_x, long_y, c.requires.b_len) in (
      omega (arith, inside, long),
      long ∙ same_length,
      chunk_written f at g.T.FixedLane.count m xs ys now new c.loop-values.invariant.2 is le same c.chunk-is_saturated.ensures.results,
      chunk_any (lane_saturates c.args.op g.T.FixedLane.width) f at g.T.FixedLane.count m xs ys now c.args.active.now c.loop-values.is_saturated c.chunk-is_saturated.result c.loop-values.invariant.2 is le same c.loop-values.invariant.3 c.chunk-is_saturated.ensures.saturated,
    )

pub loop-i-preserved : goal.loop-i-preserved
loop-i-preserved g c =
    let number = g.T.FixedLane.number in
    let w = g.T.FixedLane.width in
    let xs = map number c.args.values.now in
    let ys = map number c.args.b.now in
    let f = lane_result c.args.op w in
    let a = number c.index-values-i.result in
    let b = number c.index-b-i.result in
    let is_active = get_or c.args.active.now c.loop-i.i false in
    let same_length = c.loop-i.invariant.0 in
    let long_x : length xs ≡ length c.args.values.now = length-map c.args.values.now number in
    let long_y : length ys ≡ length c.args.b.now = length-map c.args.b.now number in
    let whole : length (zip2 f xs ys) ≡ length xs = length-zip2 f xs ys (omega (arith, c.requires.b_len)) in
    let x = still_old number (zip2 f xs ys) xs c.loop-i.values c.loop-i.i c.index-values-i.result c.loop-i.invariant.1 (omega (arith, same_length)) whole (omega (arith, c.loop-i.auto.values)) c.index-values-i.is in
    let y = number_at number c.args.b.now c.loop-i.i c.index-b-i.result (omega (arith, c.requires.b_len, same_length)) c.index-b-i.is in
    let value : number c.fixed-value.result.0 ≡ f a b = c.fixed-value.ensures.value ∙ ap₂ (λ o m. element o m w a b) c.operation.ensures c.mode_of.ensures in
    let saturated = c.fixed-value.ensures.saturated ∙ ap₂ (λ o m. saturates o m w a b) c.operation.ensures c.mode_of.ensures in (
      length-set c.loop-i.values c.loop-i.i c.fixed-value.result.0 ∙ same_length,
      written_over number f xs ys c.loop-i.values c.loop-i.i a b c.fixed-value.result.0 c.loop-i.invariant.1 (omega (arith, same_length)) (omega (arith, c.requires.b_len)) x y value,
      one_more (lane_saturates c.args.op w) xs ys c.args.active.now c.loop-i.i a b is_active c.loop-i.is_saturated c.or_active-is_saturated.result (omega (arith, same_length)) (omega (arith, c.requires.b_len)) (omega (arith, c.requires.active_len)) x y refl c.loop-i.invariant.2 (c.or_active-is_saturated.ensures ∙ ap (λ s. c.loop-i.is_saturated || (is_active && s)) saturated),
    )

pub returns-clause-results : goal.returns-clause-results
returns-clause-results g c =
    all_done g.T.FixedLane.number g.T.FixedLane.number g.T.FixedLane.number (lane_result c.args.op g.T.FixedLane.width) c.args.values.now c.args.b.now c.args.values.now c.loop-i.values c.loop-i.i (omega (arith, c.loop-i.invariant.0)) refl c.requires.b_len c.loop-i.invariant.1

pub returns-clause-saturated : goal.returns-clause-saturated
returns-clause-saturated g c =
    flag_done g.T.FixedLane.number g.T.FixedLane.number (lane_saturates c.args.op g.T.FixedLane.width) c.args.values.now c.args.b.now c.args.active.now c.loop-i.i c.loop-i.is_saturated (omega (arith, c.loop-i.invariant.0)) c.requires.b_len c.requires.active_len c.loop-i.invariant.2
