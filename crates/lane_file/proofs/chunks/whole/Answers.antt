use Rattle.std.proofs.Common.{◌≡◌, ◌+◌, ◌*◌, ◌≤◌, ap, ap₂, sym, ◌∙◌, arith, length}
use Rattle.byteorder.specs.Endian.{little_from}
use Rattle.lane_file.specs.InPlace.{other_of}
use Rattle.lane_file.proofs.Steps.{chunk_kept, lane_put, lane_read, place_in}
use Rattle.lane_file.proofs.chunks.whole.Goals as goal

pub returns-clause-done : goal.returns-clause-done
returns-clause-done g c = λ j lt.
    let s = g.E.Lane.size in
    let n = g.E.Lane.count in
    let m = c.args.m in
    let old = c.args.registers.now in
    let f = g.K.Kernel.answer c.args.op g.E.Lane.width in
    let at : s * (n * m + j) ≡ 16 * m + s * j = place_in s n m j g.E.Lane.sizes in
    let room : c.args.d + 16 * m + 16 ≤ length old = omega (arith, c.set_sixteen.ensures.shape, c.requires.d_room) in
    lane_put s n j (c.args.d + 16 * m) old c.results-results.result c.set_sixteen.new.self g.E.Lane.sizes lt room c.set_sixteen.ensures.count c.set_sixteen.ensures.meaning
    ∙ c.results-results.ensures j lt
    ∙ ap₂ (λ p q. f p q (little_from (s * j) s c.sixteen-before.result))
    (lane_read s n j (c.args.a + 16 * m) old c.sixteen-values.result g.E.Lane.sizes lt c.sixteen-values.ensures ∙ ap (λ z. little_from z s old) (omega (arith, at)))
    (c.other-others.ensures j lt ∙ ap (λ z. other_of g.row.VLENB s g.E.Lane.number c.args.b z old) (sym at))
    ∙ ap (f (little_from (c.args.a + s * (n * m + j)) s old) (other_of g.row.VLENB s g.E.Lane.number c.args.b (s * (n * m + j)) old))
    (lane_read s n j (c.args.d + 16 * m) old c.sixteen-before.result g.E.Lane.sizes lt c.sixteen-before.ensures ∙ ap (λ z. little_from z s old) (omega (arith, at)))

pub returns-clause-kept : goal.returns-clause-kept
returns-clause-kept g c = chunk_kept (c.args.d + 16 * c.args.m) c.args.registers.now c.results-results.result c.set_sixteen.new.self c.set_sixteen.ensures.count c.set_sixteen.ensures.meaning
