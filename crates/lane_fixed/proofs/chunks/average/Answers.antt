use Rattle.std.proofs.Common.{◌≡◌, ◌+◌, ◌-ℤ◌, ◌*◌, ◌^◌, ℤ, pos}
use mir.Val.{bits}
use Rattle.lane_fixed.specs.Rounding.{low_bits, shifted}
use Rattle.lane_fixed.proofs.RoundedLaneLemmas.{average_floor, average_rest, low_fits, power_of_average, rounded_lane, two_bits}
use Rattle.lane_fixed.proofs.chunks.average.Goals as goal

pub returns : goal.returns
returns g c i lt fits =
    let w = g.T.Chunk.width in
    let a = g.T.Chunk.lane c.args.a i in
    let b = g.T.Chunk.lane c.args.b i in
    let l = g.T.Chunk.lane c.args.less i in
    let v : ℤ = pos (a + b) -ℤ pos (l * 2) in
    let floor : g.T.Chunk.lane c.difference-floor.result i ≡ low_bits (bits w) (shifted 1 v) =
    rw (c.difference-floor.ensures i lt, c.sum-half.ensures i lt, c.both.ensures i lt, c.shifted.ensures i lt, c.differing-differing.ensures i lt, c.one.ensures i lt) (average_floor w a b l fits) in
    let rest : g.T.Chunk.lane c.both-rest.result i ≡ low_bits 1 v = rw (c.both-rest.ensures i lt, c.one-2.ensures i lt, c.differing-differing.ensures i lt) (average_rest a b l) in
    let power : g.T.Chunk.lane c.power.result i ≡ 2 ^ 1 = rw (c.power.ensures i lt, c.one-3.ensures i lt) (power_of_average w) in
    let up = c.increment.ensures i 1 lt (two_bits w) power (rw rest (low_fits 1 v)) in
    rw (c.sum.ensures i lt, up) (rounded_lane w c.args.mode 1 v (g.T.Chunk.lane c.difference-floor.result i) (g.T.Chunk.lane c.both-rest.result i) floor rest)
