use Rattle.std.proofs.Common.{◌*◌, ap₂, refl, sym, ◌∙◌, ◌≡◌}
use Rattle.lane_fixed.specs.Chunks.{lane_saturates}
use Rattle.lane_file.proofs.AnyLemmas.{any_active_is, never_at, never_clips}
use Rattle.lane_file.proofs.saturation.any_saturated.Goals as goal

pub returns-then-clips : goal.returns-then-clips
returns-then-clips g c =
    let s = g.E.Lane.size in
    let group = c.args.group.now in
    let is_n : c.size.result * c.vl.result ≡ s * group.vl = ap₂ (λ x y. x * y) c.size.ensures c.vl.ensures.meaning in
    any_active_is g.row.VLENB s group.bytes c.args.vs2 c.place_of.result group.vl g.E.Lane.number (lane_saturates c.args.op g.E.Lane.width) c.args.b c.args.masked c.args.registers.now c.in_body.result
    c.requires.size c.place_of.ensures.meaning (c.in_body.ensures group.vl (sym is_n))

pub returns-else-clips : goal.returns-else-clips
returns-else-clips g c =
    let v = g.row.VLENB in
    let s = g.E.Lane.size in
    let group = c.args.group.now in
    let test = lane_saturates c.args.op g.E.Lane.width in
    any_active_is v s group.bytes c.args.vs2 (c.args.vs2 * v) group.vl g.E.Lane.number test c.args.b c.args.masked c.args.registers.now _
    c.requires.size refl
    (never_at v s (c.args.vs2 * v) group.vl g.E.Lane.number test c.args.b c.args.masked c.args.registers.now (λ x y. never_clips c.args.op g.E.Lane.width x y (sym c.clips.ensures ∙ c.if-clips.false)))
