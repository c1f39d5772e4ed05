use Rattle.elf_image.proofs.segment.Segment.bytes.Goals as goal

pub returns-clause-value : goal.returns-clause-value
returns-clause-value g c = cc
