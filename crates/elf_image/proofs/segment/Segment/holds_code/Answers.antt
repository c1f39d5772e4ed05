use Rattle.std.proofs.Common.{arith}
use Rattle.std.proofs.lemmas.Grind.{common_steps}
use Rattle.elf_image.proofs.segment.Segment.holds_code.Goals as goal

pub returns-then-size-ge4 : goal.returns-then-size-ge4
returns-then-size-ge4 g c = grind (arith, common_steps)
