use Rattle.std.proofs.Common.{arith}
use Rattle.elf_image.proofs.error.ElfError.words.Goals as goal

pub returns-in-TooShort : goal.returns-in-TooShort
returns-in-TooShort c = grind arith
