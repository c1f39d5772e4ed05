use Rattle.std.proofs.Common.{arith}
use Rattle.std.proofs.lemmas.Grind.{common_steps}
use Rattle.elf_image.proofs.header.ProgramHeader.overlaps.Goals as goal

pub returns-then-from-end : goal.returns-then-from-end
returns-then-from-end c = grind (arith, common_steps)
