use Rattle.std.proofs.Common.{arith, get_or, false}
use Rattle.std.proofs.lemmas.List.{get_or_default}
use Rattle.lane_int.proofs.Overlay.{zip3_more_first, overlaid_all, length-zip3}
use Rattle.lane_int.proofs.kernels.carry_each.Goals as goal

pub loop-i-preserved : goal.loop-i-preserved
loop-i-preserved g c = zip3_more_first (g.T.Lane.carried_of c.args.op) c.args.values.now c.loop-i.values c.args.b.now c.args.carries.now c.loop-i.i c.index-values-i.result c.index-b-i.result (get_or c.args.carries.now c.loop-i.i false) c.carry_result.result c.loop-i.invariant (omega arith) c.requires.b_len c.requires.carries_len c.index-values-i.is c.index-b-i.is (get_or_default c.args.carries.now c.loop-i.i false _ (omega arith)) c.carry_result.ensures

pub returns : goal.returns
returns g c = overlaid_all c.loop-i.i _ c.args.values.now c.loop-i.values c.loop-i.invariant (omega arith) (length-zip3 (g.T.Lane.carried_of c.args.op) c.args.values.now c.args.b.now c.args.carries.now c.requires.b_len c.requires.carries_len)
