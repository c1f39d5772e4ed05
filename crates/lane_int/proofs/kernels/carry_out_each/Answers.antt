use Rattle.std.proofs.Common.{arith, get_or, false, sym, ◌∙◌}
use Rattle.std.proofs.lemmas.List.{get_or_default}
use Rattle.lane_int.proofs.Overlay.{zip3_more_third, overlaid_all, length-zip3}
use Rattle.lane_int.proofs.kernels.carry_out_each.Goals as goal

pub loop-i-preserved : goal.loop-i-preserved
loop-i-preserved g c = zip3_more_third (g.T.Lane.carry_of c.args.op) c.args.a.now c.args.b.now c.args.carries.now c.loop-i.carries c.loop-i.i c.index-a-i.result c.index-b-i.result (get_or c.loop-i.carries c.loop-i.i false) c.carry_out.result c.loop-i.invariant (omega arith) c.requires.a_len c.requires.b_len c.index-a-i.is c.index-b-i.is (get_or_default c.loop-i.carries c.loop-i.i false _ (omega arith)) c.carry_out.ensures

pub returns : goal.returns
returns g c = overlaid_all c.loop-i.i _ c.args.carries.now c.loop-i.carries c.loop-i.invariant (omega arith) (length-zip3 (g.T.Lane.carry_of c.args.op) c.args.a.now c.args.b.now c.args.carries.now (c.requires.b_len ∙ sym c.requires.a_len) (sym c.requires.a_len) ∙ c.requires.a_len)
