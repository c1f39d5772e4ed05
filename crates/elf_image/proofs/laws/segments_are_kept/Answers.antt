use Rattle.elf_image.proofs.PatchedLemmas.{segments-are-kept}
use Rattle.elf_image.proofs.laws.segments_are_kept.Goals as goal

pub returns : goal.returns
returns c = segments-are-kept
