use Rattle.std.proofs.Common.{◌∙◌}
use Rattle.elf_image.specs.File.{certificates_of}
use Rattle.elf_image.specs.Faults.{has_certificate}
use Rattle.elf_image.proofs.AttachedSize.{is_there}
use Rattle.elf_image.proofs.attached.has_certificate.Goals as goal

pub returns : goal.returns
unfolding has_certificate
returns c = c.is_some.ensures ∙ is_there c.args.found (certificates_of c.args.file.now) c.requires
