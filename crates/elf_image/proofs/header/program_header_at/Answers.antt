use Rattle.std.proofs.Common.{arith}
use Rattle.std.proofs.lemmas.Grind.{common_steps}
use Rattle.elf_image.proofs.header.program_header_at.Goals as goal

pub returns : goal.returns
returns c = grind (arith, common_steps)
