use Rattle.std.proofs.Common.{◌∙◌}
use Rattle.std.proofs.lemmas.List.{get_or-replicate}
use Rattle.lane_int.proofs.lane.U16Lane.byte_splat.Goals as goal

pub returns : goal.returns
returns c = λ j lt. c.bytes_of_halves.ensures j lt ∙ get_or-replicate 8 j c.args.self 0 lt
