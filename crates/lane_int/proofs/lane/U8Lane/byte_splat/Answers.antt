use Rattle.std.proofs.Common.{◌∙◌, sym, replicate}
use Rattle.std.proofs.lemmas.List.{get_or-replicate}
use Rattle.lane_int.proofs.ByteLemmas.{byte_alone}
use Rattle.lane_int.proofs.lane.U8Lane.byte_splat.Goals as goal

pub returns : goal.returns
returns c = λ j lt. sym (byte_alone j (replicate 16 c.args.self)) ∙ get_or-replicate 16 j c.args.self 0 lt
