use Rattle.std.proofs.Common.{w32}
use Rattle.lane_int.proofs.TurnedLemmas.{shifted_lanes}
use Rattle.lane_int.proofs.chunks.words.shift_right_signed.Goals as goal

pub returns : goal.returns
returns c = shifted_lanes w32 4 c.args.values c.args.b c.turned.ensures c.amounts-amounts.ensures.meaning c.fits-b.0 c.fits-values.1 c.fits-b.1
