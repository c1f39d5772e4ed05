use Rattle.std.proofs.Common.{arith}
use Rattle.std.proofs.lemmas.Grind.{common_steps}
use Rattle.elf_image.specs.Words.{half_at}
use Rattle.elf_image.proofs.header.half_at.Goals as goal

pub returns : goal.returns
unfolding half_at
returns c = grind (arith, common_steps)
