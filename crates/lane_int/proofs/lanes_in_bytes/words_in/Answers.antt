use Rattle.std.proofs.Common.{arith, refl}
use Rattle.lane_int.proofs.ByteLemmas.{lane_in_bytes}
use Rattle.lane_int.proofs.lanes_in_bytes.words_in.Goals as goal

pub returns-clause-lanes : goal.returns-clause-lanes
returns-clause-lanes c j lt = lane_in_bytes 4 4294967296 4 c.args.bytes j refl c.fits-bytes.1 lt (omega (arith, lt, c.fits-bytes.0))
