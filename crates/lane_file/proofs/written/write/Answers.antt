use Rattle.std.proofs.Common.{◌≡◌, ◌+◌, ◌-◌, ◌*◌, ◌≤◌, ap, ap₂, arith, length, ◌∙◌}
use Rattle.lane_file.proofs.Groups.{filled_length, group_room, is_a_write, is_group_written, moved_done, moved_fill, moved_kept, small_from}
use Rattle.lane_file.proofs.written.write.Goals as goal

pub returns : goal.returns
returns g c =
    let v = g.row.VLENB in
    let s = g.E.Lane.size in
    let group = c.args.group.now in
    let old = c.args.registers.now in
    let mid = c.body.new.registers in
    let new = c.fill.new.self in
    let d = c.args.vd * v in
    let is_n : c.size.result * c.vl.result ≡ s * group.vl = ap₂ (λ x y. x * y) c.size.ensures c.vl.ensures.meaning in
    let is_room : c.count-room.result * v ≡ group.count * v = ap (λ z. z * v) c.count-room.ensures.meaning in
    let is_size : s * group.vl ≡ group.bytes * group.vl = ap (λ z. z * group.vl) c.requires.size in
    let fits : s * group.vl ≤ group.count * v = omega (arith, is_size, is_room, c.count-room.ensures.body) in
    let inside : c.args.vd + group.count ≤ 32 = omega (arith, c.requires.first, c.count-room.ensures.inside, c.count-room.ensures.meaning) in
    let all : d + group.count * v ≤ 32 * v = group_room v c.args.vd group.count (group.count * v) inside (omega arith) in
    let is = moved_fill (c.place_of-d.result + c.size.result * c.vl.result) (d + s * group.vl) (c.count-room.result * v - c.size.result * c.vl.result) (group.count * v - s * group.vl) c.args.policy.tail mid new
    (omega (arith, is_n, c.place_of-d.ensures.meaning)) (omega (arith, is_n, is_room)) c.fill.ensures.meaning in
    let kept = moved_kept c.place_of-d.result d (c.size.result * c.vl.result) (s * group.vl) old mid c.place_of-d.ensures.meaning is_n c.body.ensures.kept in
    let long : length new ≡ 32 * v = filled_length c.args.policy.tail (d + s * group.vl) (group.count * v - s * group.vl) mid new (omega (arith, all, fits, c.fill.ensures.shape)) is ∙ c.fill.ensures.shape in
    is_group_written v s c.args.vd c.args.vs2 group g.E.Lane.number (g.K.Kernel.answer c.args.op g.E.Lane.width) c.args.b c.args.masked c.args.policy old new c.requires.first c.requires.size
    (is_a_write v s group.vl c.args.vd c.args.vs2 group.count g.E.Lane.number (g.K.Kernel.answer c.args.op g.E.Lane.width) c.args.b c.args.masked c.args.policy old mid new
    c.count-room.ensures.vlenb c.requires.sizes inside fits (omega (arith, kept.0, c.fill.ensures.shape))
    (small_from (c.new.result * v) (32 * v) c.group.result.now new (let e : c.new.result * v ≡ 0 * v = ap (λ z. z * v) c.new.ensures in omega (arith, e)) long c.group.ensures.meaning c.are_bytes.ensures)
    (moved_done v s c.place_of-d.result d c.place_of.result (c.args.vs2 * v) (c.size.result * c.vl.result) (s * group.vl) g.E.Lane.number (g.K.Kernel.answer c.args.op g.E.Lane.width) c.args.b c.args.masked c.args.policy.inactive old mid c.place_of-d.ensures.meaning c.place_of.ensures.meaning is_n c.body.ensures.done)
    kept is)
