use Rattle.elf_image.proofs.ReadBackLemmas.{attached-is-read}
use Rattle.elf_image.proofs.laws.attached_is_read.Goals as goal

pub returns : goal.returns
returns c = attached-is-read
