use Rattle.rv_decode.proofs.Meanings.{means_fence}
use Rattle.rv_decode.proofs.laws.fences_differ_in_ignored_fields.Goals as goal

pub returns : goal.returns
returns c = means_fence c.args.word c.requires.opcode c.requires.f3
