-- What `search` finds late, or not at all.
use Rattle.std.proofs.Common.{arith}
use Rattle.std.proofs.lemmas.Grind.{common_steps}
use Rattle.check_reasons.specs.Access.{size_lines, offset_text}
use Rattle.check_reasons.proofs.access.SizeLinesDisplay.fmt.Goals as goal

pub returns-clause-writes : goal.returns-clause-writes
unfolding size_lines offset_text
returns-clause-writes g c = grind (arith, common_steps)
