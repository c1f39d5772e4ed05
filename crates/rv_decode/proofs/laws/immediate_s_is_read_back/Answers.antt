use Rattle.rv_decode.proofs.Places.{back_s}
use Rattle.rv_decode.proofs.laws.immediate_s_is_read_back.Goals as goal

pub returns : goal.returns
returns c = back_s c.args.imm c.args.middle c.args.opcode c.requires.least c.requires.greatest c.requires.middle c.requires.opcode
