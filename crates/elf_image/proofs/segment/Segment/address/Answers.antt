use Rattle.elf_image.proofs.segment.Segment.address.Goals as goal

pub returns-clause-value : goal.returns-clause-value
returns-clause-value g c = cc
