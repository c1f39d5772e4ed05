use Rattle.std.proofs.Common.{arith}
use Rattle.elf_image.proofs.header.header_offset.Goals as goal

pub returns : goal.returns
returns c = grind arith
