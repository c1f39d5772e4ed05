use Rattle.std.proofs.Common.{arith}
use Rattle.std.proofs.lemmas.Grind.{common_steps}
use Rattle.elf_image.proofs.segment.Segment.contains.Goals as goal

pub returns-then-first-address : goal.returns-then-first-address
returns-then-first-address g c = grind (arith, common_steps)
