use Rattle.rv_decode.proofs.Places.{back_i}
use Rattle.rv_decode.proofs.laws.immediate_i_is_read_back.Goals as goal

pub returns : goal.returns
returns c = back_i c.args.imm c.args.low c.requires.least c.requires.greatest c.requires.low
