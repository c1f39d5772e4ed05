use Rattle.std.proofs.Common.{◌+◌, ◌*◌, ◌||◌, ℕ, ap₂, arith, sym, ◌∙◌}
use Rattle.lane_fixed.specs.Chunks.{lane_saturates}
use Rattle.lane_file.specs.InPlace.{holds_at}
use Rattle.lane_file.proofs.AnyLemmas.{any_of_more}
use Rattle.lane_file.proofs.saturation.in_chunks.Goals as goal

pub loop-m-preserved : goal.loop-m-preserved
loop-m-preserved g c =
    let n = g.E.Lane.count in
    let m = c.loop-m.m in
    let t = λ (i : ℕ). holds_at g.row.VLENB g.E.Lane.size g.E.Lane.number (lane_saturates c.args.op g.E.Lane.width) c.args.a c.args.b c.args.masked c.args.registers.now i in
    c.either-is_any.ensures
    ∙ ap₂ (λ x y. x || y) c.loop-m.invariant (c.in_part-here.ensures n g.E.Lane.sizes)
    ∙ sym (any_of_more t (n * m) n (n * (m + 1)) (omega arith))
