use Rattle.std.proofs.Common.{arith}
use Rattle.std.proofs.lemmas.Grind.{elements}
use Rattle.check_reasons.specs.Edge.{entered_by, entered_of}
use Rattle.check_reasons.proofs.edge.entered_block.Goals as goal

pub returns : goal.returns
unfolding entered_of entered_by
returns g c = grind (arith, elements)
