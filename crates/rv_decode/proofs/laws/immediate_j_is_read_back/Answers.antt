use Rattle.rv_decode.proofs.Places.{back_j}
use Rattle.rv_decode.proofs.laws.immediate_j_is_read_back.Goals as goal

pub returns : goal.returns
returns c = back_j c.args.imm c.args.low c.requires.least c.requires.greatest c.requires.even c.requires.low
