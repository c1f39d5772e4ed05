use Rattle.std.proofs.Common.{arith}
use Rattle.std.proofs.lemmas.Grind.{common_steps}
use Rattle.elf_image.proofs.header.ProgramHeader.is_out_of_file.Goals as goal

pub returns-then-is_load-2 : goal.returns-then-is_load-2
returns-then-is_load-2 c = grind (arith, common_steps)
