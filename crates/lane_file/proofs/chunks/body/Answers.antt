use Rattle.std.proofs.Common.{◌+◌, ◌-◌, ◌*◌, ◌/◌, ap, arith, sym}
use Rattle.lane_file.specs.InPlace.{IsDone, IsKept, target}
use Rattle.lane_file.proofs.Steps.{done_is, kept_is, more_chunk}
use Rattle.lane_file.proofs.chunks.body.Goals.{then-masked, else-masked}
use Rattle.lane_file.proofs.chunks.body.Goals as goal

pub returns-then-count-n-clause-done : goal.returns-then-count-n-clause-done
returns-then-count-n-clause-done g c =
    let v = g.row.VLENB in
    let s = g.E.Lane.size in
    let d = c.args.d in
    let n = c.args.n in
    let m = n / 16 in
    let old = c.args.registers.now in
    let mid = c.if-masked.registers in
    let done : IsDone s d (target v s g.E.Lane.number (g.K.Kernel.answer c.args.op g.E.Lane.width) d c.args.a c.args.b c.args.masked c.args.inactive old) (16 * m) mid =
    elim c.if-masked.branch [
      | then-masked w ↦ done_is s d (16 * m) _ (target v s g.E.Lane.number (g.K.Kernel.answer c.args.op g.E.Lane.width) d c.args.a c.args.b c.args.masked c.args.inactive old) w.whole_chunks.new.registers mid w.registers-is
          (λ i. ap (λ t. target v s g.E.Lane.number (g.K.Kernel.answer c.args.op g.E.Lane.width) d c.args.a c.args.b t c.args.inactive old i) (sym w.if-masked.true)) w.whole_chunks.ensures.done
      | else-masked w ↦ done_is s d (16 * m) _ (target v s g.E.Lane.number (g.K.Kernel.answer c.args.op g.E.Lane.width) d c.args.a c.args.b c.args.masked c.args.inactive old) w.known_chunks.new.registers mid w.registers-is
          (λ i. ap (λ t. target v s g.E.Lane.number (g.K.Kernel.answer c.args.op g.E.Lane.width) d c.args.a c.args.b t c.args.inactive old i) (sym w.if-masked.false)) w.known_chunks.ensures.done
    ] in
    let kept : IsKept d (16 * m) old mid =
    elim c.if-masked.branch [
      | then-masked w ↦ kept_is d (16 * m) old w.whole_chunks.new.registers mid w.registers-is w.whole_chunks.ensures.kept
      | else-masked w ↦ kept_is d (16 * m) old w.known_chunks.new.registers mid w.registers-is w.known_chunks.ensures.kept
    ] in
    (more_chunk v s g.E.Lane.count d c.args.a m n (n - 16 * m) (16 * ((n + 15) / 16)) g.E.Lane.number (g.K.Kernel.answer c.args.op g.E.Lane.width) c.args.b c.args.masked c.args.inactive old mid c.part.new.registers
    g.E.Lane.sizes (omega (arith, c.if-count-n.true)) (omega arith) (omega (arith, c.if-count-n.true)) c.requires.bits_room c.requires.a_apart c.requires.b_apart c.requires.mask_stays done kept c.part.ensures.done c.part.ensures.kept).0
