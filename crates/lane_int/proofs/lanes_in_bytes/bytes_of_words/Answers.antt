use Rattle.std.proofs.Common.{arith, refl, w32}
use Rattle.lane_int.proofs.ByteLemmas.{lane_as_bytes}
use Rattle.lane_int.proofs.lanes_in_bytes.bytes_of_words.Goals as goal

pub returns : goal.returns
returns c j lt = lane_as_bytes w32 4 4 16 c.args.lanes j refl c.fits-lanes.1 (omega (arith, lt)) (omega (arith, lt, c.fits-lanes.0))
