use Rattle.std.proofs.Common.{arith}
use Rattle.std.proofs.lemmas.Grind.{elements}
use Rattle.elf_image.specs.Image.{code_at}
use Rattle.elf_image.proofs.image.Image.code_at.Goals as goal

pub returns-clause-low : goal.returns-clause-low
unfolding code_at
returns-clause-low g c = grind (arith, elements)
