use Rattle.std.proofs.Common.{arith}
use Rattle.elf_image.proofs.layout.limits_in_numbers.Goals as goal

pub returns-clause-file : goal.returns-clause-file
returns-clause-file c = grind arith
