use Rattle.std.proofs.Common.{arith, sym}
use Rattle.std.proofs.lemmas.Simd.{length-zip2}
use Rattle.lane_int.proofs.Overlay.{zip2_more, overlaid_all}
use Rattle.lane_int.proofs.kernels.compute_each.Goals as goal

pub loop-i-preserved : goal.loop-i-preserved
loop-i-preserved g c = zip2_more (g.T.Lane.result_of c.args.op) c.args.values.now c.loop-i.values c.args.b.now c.loop-i.i c.index-values-i.result c.index-b-i.result c.int_result.result c.loop-i.invariant (omega arith) c.requires c.index-values-i.is c.index-b-i.is c.int_result.ensures

pub returns : goal.returns
returns g c = overlaid_all c.loop-i.i _ c.args.values.now c.loop-i.values c.loop-i.invariant (omega arith) (length-zip2 (g.T.Lane.result_of c.args.op) c.args.values.now c.args.b.now (sym c.requires))
