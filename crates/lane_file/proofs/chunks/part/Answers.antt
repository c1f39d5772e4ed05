use Rattle.std.proofs.Common.{◌≡◌, ◌+◌, ◌*◌, ◌<◌, ◌≤◌, ap, ap₂, sym, ◌∙◌, arith, length, get_or}
use Rattle.std.proofs.lemmas.Simd.{get_or-chunk}
use Rattle.byteorder.specs.Endian.{little_from}
use Rattle.vreg_groups.specs.NewElements.{filled}
use Rattle.lane_file.specs.InPlace.{is_active, other_of}
use Rattle.lane_file.proofs.Chosen.{chosen_element}
use Rattle.lane_file.proofs.Steps.{byte_put, chunk_kept, fewer_kept, inside, lane_put, lane_read, place_in, same_number}
use Rattle.lane_file.proofs.chunks.part.Goals as goal

pub returns-clause-done : goal.returns-clause-done
returns-clause-done g c = λ j lt within.
    let s = g.E.Lane.size in
    let n = g.E.Lane.count in
    let m = c.args.m in
    let i = n * m + j in
    let d = c.args.d + 16 * m in
    let old = c.args.registers.now in
    let new = c.set_sixteen.new.self in
    let lanes = c.written_lanes-lanes.result in
    let at : s * i ≡ 16 * m + s * j = place_in s n m j g.E.Lane.sizes in
    let few : s * j + s ≤ 16 = inside s n j g.E.Lane.sizes lt in
    let room : d + 16 ≤ length old = omega (arith, c.set_sixteen.ensures.shape, c.requires.d_room) in
    let x : little_from (s * j) s c.sixteen-values.result ≡ little_from (c.args.a + s * i) s old =
    lane_read s n j (c.args.a + 16 * m) old c.sixteen-values.result g.E.Lane.sizes lt c.sixteen-values.ensures ∙ ap (λ z. little_from z s old) (omega (arith, at)) in
    let y : little_from (s * j) s c.other-others.result ≡ other_of g.row.VLENB s g.E.Lane.number c.args.b (s * i) old =
    c.other-others.ensures j lt ∙ ap (λ z. other_of g.row.VLENB s g.E.Lane.number c.args.b z old) (sym at) in
    let f = g.K.Kernel.answer c.args.op g.E.Lane.width in
    let v : little_from (s * j) s c.sixteen-old.result ≡ little_from (c.args.d + s * i) s old =
    lane_read s n j d old c.sixteen-old.result g.E.Lane.sizes lt c.sixteen-old.ensures ∙ ap (λ z. little_from z s old) (omega (arith, at)) in
    ap (λ z. little_from z s new) (omega (arith, at))
    ∙ chosen_element (is_active g.row.VLENB c.args.masked i old) c.args.inactive s (c.args.d + s * i) 0
    (f (little_from (c.args.a + s * i) s old) (other_of g.row.VLENB s g.E.Lane.number c.args.b (s * i) old) (little_from (c.args.d + s * i) s old)) old lanes new
    (λ yes.
    ap (λ z. little_from z s new) (omega (arith, at))
    ∙ lane_put s n j d old lanes new g.E.Lane.sizes lt room c.set_sixteen.ensures.count c.set_sixteen.ensures.meaning
    ∙ same_number s (s * j) (s * j) lanes c.results-results.result (λ k p q less is_p is_q.
    ap (λ t. get_or lanes t 0) is_p
    ∙ c.written_lanes-lanes.ensures.active (s * j + k) (omega (arith, few, less)) (c.first_flags.ensures.set (s * j + k) (omega (arith, within, less))) (c.active_flags-flags.ensures.set j k lt less yes)
    ∙ ap (λ t. get_or c.results-results.result t 0) (sym is_q))
    ∙ c.results-results.ensures j lt
    ∙ ap₂ (λ p q. f p q (little_from (s * j) s c.sixteen-old.result)) x y
    ∙ ap (f (little_from (c.args.a + s * i) s old) (other_of g.row.VLENB s g.E.Lane.number c.args.b (s * i) old)) v)
    (λ no k less.
    let where_k : c.args.d + s * i + k ≡ d + (s * j + k) = omega (arith, at) in
    let low : s * j + k < 16 = omega (arith, few, less) in
    ap (λ t. get_or new t 0) where_k
    ∙ byte_put d (s * j + k) old lanes new room c.set_sixteen.ensures.count c.set_sixteen.ensures.meaning low
    ∙ c.written_lanes-lanes.ensures.inactive (s * j + k) low (c.first_flags.ensures.set (s * j + k) (omega (arith, within, less))) (c.active_flags-flags.ensures.clear j k lt less no)
    ∙ ap (filled c.args.inactive 255) (ap (λ l. get_or l (s * j + k) 0) c.sixteen-old.ensures ∙ get_or-chunk d 16 old (s * j + k) 0 low ∙ ap (λ t. get_or old t 0) (sym where_k)))

pub returns-clause-kept : goal.returns-clause-kept
returns-clause-kept g c =
    let d = c.args.d + 16 * c.args.m in
    let old = c.args.registers.now in
    let room : d + 16 ≤ length old = omega (arith, c.set_sixteen.ensures.shape, c.requires.d_room) in
    fewer_kept d c.args.n old c.set_sixteen.new.self (chunk_kept d old c.written_lanes-lanes.result c.set_sixteen.new.self c.set_sixteen.ensures.count c.set_sixteen.ensures.meaning)
    (λ k lt le.
    byte_put d k old c.written_lanes-lanes.result c.set_sixteen.new.self room c.set_sixteen.ensures.count c.set_sixteen.ensures.meaning lt
    ∙ c.written_lanes-lanes.ensures.rest k lt (c.first_flags.ensures.clear k le)
    ∙ ap (λ l. get_or l k 0) c.sixteen-old.ensures ∙ get_or-chunk d 16 old k 0 lt)
