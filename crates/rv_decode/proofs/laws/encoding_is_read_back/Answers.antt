use Rattle.rv_decode.proofs.Encoded.{encoded}
use Rattle.rv_decode.proofs.laws.encoding_is_read_back.Goals as goal

pub returns : goal.returns
returns c = encoded c.args.insn c.requires
