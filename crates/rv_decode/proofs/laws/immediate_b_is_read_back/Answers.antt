use Rattle.rv_decode.proofs.Places.{back_b}
use Rattle.rv_decode.proofs.laws.immediate_b_is_read_back.Goals as goal

pub returns : goal.returns
returns c = back_b c.args.imm c.args.middle c.args.opcode c.requires.least c.requires.greatest c.requires.even c.requires.middle c.requires.opcode
