use Rattle.elf_image.proofs.segment.Segment.memory_size.Goals as goal

pub returns-clause-value : goal.returns-clause-value
returns-clause-value g c = cc
