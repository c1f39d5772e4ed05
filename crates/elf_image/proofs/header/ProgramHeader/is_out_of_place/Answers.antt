use Rattle.std.proofs.Common.{arith}
use Rattle.elf_image.proofs.header.ProgramHeader.is_out_of_place.Goals as goal

pub returns : goal.returns
returns c = grind arith
