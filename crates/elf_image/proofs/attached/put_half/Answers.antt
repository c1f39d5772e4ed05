use Rattle.std.proofs.Common.{arith}
use Rattle.std.proofs.lemmas.Grind.{common_steps}
use Rattle.elf_image.specs.Words.{half}
use Rattle.elf_image.proofs.attached.put_half.Goals as goal

pub returns : goal.returns
unfolding half
returns g c = grind (arith, common_steps)
