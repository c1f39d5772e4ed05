use Rattle.elf_image.proofs.image.Image.certificate.Goals as goal

pub returns-in-Some : goal.returns-in-Some
returns-in-Some g c = cc
