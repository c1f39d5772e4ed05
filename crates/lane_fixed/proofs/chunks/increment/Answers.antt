use Rattle.std.proofs.Common.{◌≡◌, ◌%◌, ◌^◌, arith}
use mir.Val.{bits}
use Rattle.lane_fixed.specs.Rounding.{rounds_up}
use Rattle.std.proofs.Math.Pow.{pow-lt}
use Rattle.lane_fixed.proofs.RoundedLaneLemmas.{bit_few, odd_is, two_most, up_even, up_nearest, up_odd}
use Rattle.lane_fixed.proofs.chunks.increment.Goals as goal

pub returns-in-NearestUp : goal.returns-in-NearestUp
returns-in-NearestUp g c i d lt few is below =
    let half = c.at_half.ensures i lt (omega (arith, is, below)) (omega (arith, c.one-in-NearestUp.ensures i lt)) (rw is (pow-lt few)) in
    rw (c.in-NearestUp.is, half, is, c.one-in-NearestUp.ensures i lt) (up_nearest (g.T.Chunk.lane c.args.floor i) (g.T.Chunk.lane c.args.rest i) d)

pub returns-in-NearestEven : goal.returns-in-NearestEven
returns-in-NearestEven g c i d lt few is below =
    let f = g.T.Chunk.lane c.args.floor i in
    let odd : g.T.Chunk.lane c.both-odd.result i ≡ f % 2 = rw (c.both-odd.ensures i lt, c.one.ensures i lt) (odd_is f) in
    let half = c.at_half-in-NearestEven.ensures i lt (omega (arith, is, below)) (omega (arith, odd, bit_few f)) (rw is (pow-lt few)) in
    rw (c.in-NearestEven.is, half, is, odd) (up_even f (g.T.Chunk.lane c.args.rest i) d)

pub returns-in-Down : goal.returns-in-Down
unfolding rounds_up
returns-in-Down g c i d lt few is below = rw (c.in-Down.is) (c.zero.ensures i lt)

pub returns-in-Odd : goal.returns-in-Odd
returns-in-Odd g c i d lt few is below =
    let f = g.T.Chunk.lane c.args.floor i in
    let odd : g.T.Chunk.lane c.both-odd.result i ≡ f % 2 = rw (c.both-odd.ensures i lt, c.one.ensures i lt) (odd_is f) in
    rw (c.in-Odd.is, c.if_same.ensures i lt, c.difference.ensures i lt, c.zero-in-Odd.ensures i lt, c.zero-in-Odd-2.ensures i lt, c.one-in-Odd.ensures i lt, odd)
    (up_odd (2 ^ bits g.T.Chunk.width) f (g.T.Chunk.lane c.args.rest i) d (two_most g.T.Chunk.width))
