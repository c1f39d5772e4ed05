use Rattle.std.proofs.lemmas.Simd.{zip2_splat}
use Rattle.lane_int.proofs.chunks.bytes.turned.Goals as goal

pub returns : goal.returns
returns c = zip2_splat _ c.args.lanes 16 128 c.fits-lanes.0
