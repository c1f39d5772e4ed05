use Rattle.std.proofs.Common.{lit<, w8}
use Rattle.std.proofs.lemmas.Simd.{Each1-all, Each2-splat, zip2_splat}
use Rattle.lane_int.proofs.VectorLemmas.{amounts_fit}
use Rattle.lane_int.proofs.chunks.bytes.amounts.Goals as goal

pub nonzero_rem-result : goal.nonzero_rem-result
nonzero_rem-result c = Each2-splat _ c.args.b 16 8 (Each1-all _ (λ x. lit< tt) c.args.b)

pub returns : goal.returns
returns c = let is = zip2_splat _ c.args.b 16 8 c.fits-b.0 in record { meaning = is; fits = λ lanes. amounts_fit w8 lanes c.args.b is }
