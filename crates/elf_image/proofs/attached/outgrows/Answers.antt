use Rattle.std.proofs.Common.{arith}
use Rattle.elf_image.proofs.AttachedSize.{fits}
use Rattle.elf_image.proofs.attached.outgrows.Goals as goal

pub returns-clause-value : goal.returns-clause-value
returns-clause-value c =
    let by_size = fits c.args.file.now c.args.certificate.now c.requires (omega arith) in
    cc
