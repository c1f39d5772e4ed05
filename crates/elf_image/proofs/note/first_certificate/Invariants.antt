use Rattle.std.proofs.Common.{◌≡◌, length}
use Rattle.elf_image.specs.Notes.{certificates_in}
use Rattle.elf_image.proofs.note.first_certificate.Given as goal

-- what is left has all the certificates
abbrev pub invariant-loop-note : goal.invariant-loop-note
invariant-loop-note l = certificates_in l.bytes ≡ certificates_in l.rest

abbrev pub decreases-loop-note : goal.decreases-loop-note
decreases-loop-note l = length l.rest
