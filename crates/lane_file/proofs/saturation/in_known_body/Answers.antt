use Rattle.std.proofs.Common.{◌-◌, ◌*◌, ◌/◌, ◌||◌, ℕ, ap, ap₂, arith, sym, ◌∙◌}
use Rattle.lane_fixed.specs.Chunks.{lane_saturates}
use Rattle.lane_file.specs.InPlace.{any_of, holds_at}
use Rattle.lane_file.proofs.AnyLemmas.{all_of, any_of_more, rest_of}
use Rattle.lane_file.proofs.saturation.in_known_body.Goals as goal

pub returns-then-count-n : goal.returns-then-count-n
returns-then-count-n g c = λ k is.
    let n = g.E.Lane.count in
    let m = c.args.n / 16 in
    let t = λ (i : ℕ). holds_at g.row.VLENB g.E.Lane.size g.E.Lane.number (lane_saturates c.args.op g.E.Lane.width) c.args.a c.args.b c.args.masked c.args.registers.now i in
    let rest = rest_of g.E.Lane.size n m k c.args.n g.E.Lane.sizes is (omega arith) in
    c.either.ensures
    ∙ ap₂ (λ x y. x || y) c.in_chunks-before.ensures (c.in_part-last.ensures (k - n * m) (rest.1))
    ∙ sym (any_of_more t (n * m) (k - n * m) k (rest.0))

pub returns-else-count-n : goal.returns-else-count-n
returns-else-count-n g c = λ k is.
    let n = g.E.Lane.count in
    let m = c.args.n / 16 in
    let t = λ (i : ℕ). holds_at g.row.VLENB g.E.Lane.size g.E.Lane.number (lane_saturates c.args.op g.E.Lane.width) c.args.a c.args.b c.args.masked c.args.registers.now i in
    c.in_chunks-before.ensures ∙ ap (any_of t) (sym (all_of g.E.Lane.size n m k c.args.n g.E.Lane.sizes is (omega (arith, c.if-count-n.false))))
