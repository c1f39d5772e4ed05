use Rattle.std.proofs.Common.{arith}
use Rattle.std.proofs.lemmas.Grind.{common_steps}
use Rattle.elf_image.specs.Attached.{attached_of}
use Rattle.elf_image.proofs.attached.write_attached.Goals as goal

pub returns : goal.returns
unfolding attached_of
returns g c = grind (arith, common_steps)
