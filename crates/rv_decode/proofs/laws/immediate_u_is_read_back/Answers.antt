use Rattle.rv_decode.proofs.Places.{back_u}
use Rattle.rv_decode.proofs.laws.immediate_u_is_read_back.Goals as goal

pub returns : goal.returns
returns c = back_u c.args.imm c.args.low c.requires.zeros c.ranges.imm.fits c.requires.low
