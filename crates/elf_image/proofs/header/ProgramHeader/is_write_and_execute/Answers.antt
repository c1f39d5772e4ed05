use Rattle.std.proofs.Common.{arith}
use Rattle.std.proofs.lemmas.Grind.{common_steps}
use Rattle.elf_image.proofs.header.ProgramHeader.is_write_and_execute.Goals as goal

pub returns-then-is_writable : goal.returns-then-is_writable
returns-then-is_writable c = grind (arith, common_steps)

pub returns-else-is_writable : goal.returns-else-is_writable
returns-else-is_writable c = grind arith
