use Rattle.std.proofs.Common.{◌+◌, ◌*◌, ap, arith, sym, ◌∙◌}
use Rattle.byteorder.specs.Endian.{little_from}
use Rattle.lane_file.specs.InPlace.{target}
use Rattle.lane_file.proofs.Steps.{kept_is, more_chunk}
use Rattle.lane_file.proofs.chunks.whole_chunks.Goals.{then-masked, else-masked}
use Rattle.lane_file.proofs.chunks.whole_chunks.Goals as goal

pub loop-m-preserved : goal.loop-m-preserved
loop-m-preserved g c =
    let v = g.row.VLENB in
    let s = g.E.Lane.size in
    let n = g.E.Lane.count in
    let m = c.loop-m.m in
    let d = c.args.d in
    let now = c.loop-m.registers in
    let new = c.if-masked.registers in
    let go = more_chunk v s n d c.args.a m (16 * (m + 1)) 16 (16 * c.args.count) g.E.Lane.number (g.K.Kernel.answer c.args.op g.E.Lane.width) c.args.b c.args.masked c.args.inactive c.args.registers.now now new
    g.E.Lane.sizes (omega arith) (omega arith) (omega (arith, c.loop-m-test.true)) c.requires.bits_room c.requires.a_apart c.requires.b_apart c.requires.mask_stays c.loop-m.invariant.0 c.loop-m.invariant.1 in
    elim c.if-masked.branch [
      | then-masked w ↦ go
          (λ j lt within. ap (little_from (d + 16 * m + s * j) s) w.registers-is ∙ w.part.ensures.done j lt within
          ∙ ap (λ t. target v s g.E.Lane.number (g.K.Kernel.answer c.args.op g.E.Lane.width) d c.args.a c.args.b t c.args.inactive now (n * m + j)) (sym w.if-masked.true))
          (kept_is (d + 16 * m) 16 now w.part.new.registers new w.registers-is w.part.ensures.kept)
      | else-masked w ↦ go
          (λ j lt within. ap (little_from (d + 16 * m + s * j) s) w.registers-is ∙ w.whole.ensures.done j lt
          ∙ ap (λ t. target v s g.E.Lane.number (g.K.Kernel.answer c.args.op g.E.Lane.width) d c.args.a c.args.b t c.args.inactive now (n * m + j)) (sym w.if-masked.false))
          (kept_is (d + 16 * m) 16 now w.whole.new.registers new w.registers-is w.whole.ensures.kept)
    ]
