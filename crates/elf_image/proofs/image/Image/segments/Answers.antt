use Rattle.elf_image.proofs.image.Image.segments.Goals as goal

pub returns-clause-value : goal.returns-clause-value
returns-clause-value g c = cc
