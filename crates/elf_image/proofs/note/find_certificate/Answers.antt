use Rattle.elf_image.proofs.Certificates.{several_of}
use Rattle.elf_image.proofs.note.find_certificate.Goals as goal

pub returns-in-Err-clause-several : goal.returns-in-Err-clause-several
returns-in-Err-clause-several c =
    several_of c.args.file.now c.args.headers.now c.loop-header.header-index _ _ _ c.loop-header-test.true c.loop-header.invariant c.if-is_note.ensures c.file_part.ensures c.in-Err.ensures.several
