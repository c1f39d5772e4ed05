use Rattle.std.proofs.Common.{◌≡◌, ◌-ℤ◌, ◌%◌, ◌<◌, ℤ, pos, arith}
use mir.Val.{bits}
use Rattle.std.proofs.lemmas.Nat.{mod_below}
use Rattle.lane_fixed.specs.Rounding.{low_bits, shifted}
use Rattle.lane_fixed.proofs.RoundedLaneLemmas.{low_fits, rounded_lane, scaled_floor, scaled_rest, two_bits}
use Rattle.lane_fixed.proofs.chunks.scaled.Goals as goal

pub returns : goal.returns
returns g c i j lt fits is =
    let w = g.T.Chunk.width in
    let a = g.T.Chunk.lane c.args.a i in
    let l = g.T.Chunk.lane c.args.less i in
    let d = g.T.Chunk.lane c.args.b i % bits w in
    let few : d < bits w = mod_below (g.T.Chunk.lane c.args.b i) (bits w) (omega (arith, two_bits w)) in
    let v : ℤ = pos a -ℤ pos l in
    let floor : g.T.Chunk.lane c.difference-floor.result i ≡ low_bits (bits w) (shifted d v) =
    rw (c.difference-floor.ensures i lt, c.shifted.ensures i lt, c.shifted-2.ensures i lt) (scaled_floor w a l j d fits is) in
    let rest : g.T.Chunk.lane c.both-rest.result i ≡ low_bits d v =
    rw (c.both-rest.ensures i lt, c.difference.ensures i lt, c.one.ensures i lt, c.power-power.ensures i lt) (scaled_rest w a l j d few is) in
    let up = c.increment.ensures i d lt few (c.power-power.ensures i lt) (rw rest (low_fits d v)) in
    rw (c.sum.ensures i lt, up) (rounded_lane w c.args.mode d v (g.T.Chunk.lane c.difference-floor.result i) (g.T.Chunk.lane c.both-rest.result i) floor rest)
