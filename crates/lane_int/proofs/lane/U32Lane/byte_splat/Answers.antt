use Rattle.std.proofs.Common.{◌∙◌}
use Rattle.std.proofs.lemmas.List.{get_or-replicate}
use Rattle.lane_int.proofs.lane.U32Lane.byte_splat.Goals as goal

pub returns : goal.returns
returns c = λ j lt. c.bytes_of_words.ensures j lt ∙ get_or-replicate 4 j c.args.self 0 lt
