use Rattle.std.proofs.Common.{arith}
use Rattle.std.proofs.lemmas.Grind.{common_steps}
use Rattle.elf_image.specs.Attached.{note_with}
use Rattle.elf_image.proofs.attached.put_note.Goals as goal

pub returns : goal.returns
unfolding note_with
returns g c = grind (arith, common_steps)
