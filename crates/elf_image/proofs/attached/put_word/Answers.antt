use Rattle.std.proofs.Common.{arith}
use Rattle.std.proofs.lemmas.Grind.{common_steps}
use Rattle.elf_image.specs.Words.{word}
use Rattle.elf_image.proofs.attached.put_word.Goals as goal

pub returns : goal.returns
unfolding word
returns g c = grind (arith, common_steps)
