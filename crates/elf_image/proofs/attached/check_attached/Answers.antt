use Rattle.std.proofs.Common.{arith}
use Rattle.std.proofs.lemmas.Grind.{common_steps}
use Rattle.elf_image.specs.Attached.{attach_fault}
use Rattle.elf_image.proofs.HasImage.{notes_in_place}
use Rattle.elf_image.proofs.attached.check_attached.Goals as goal

pub certificate-requires-clause-inside : goal.certificate-requires-clause-inside
certificate-requires-clause-inside c =
    rw (c.as_slice.ensures.value, c.read-headers.ensures) (notes_in_place c.args.file.now c.in_ok-check_places.ensures)

pub returns-in_err-refuse_if-clause-value : goal.returns-in_err-refuse_if-clause-value
unfolding attach_fault
returns-in_err-refuse_if-clause-value c = grind (arith, common_steps)
