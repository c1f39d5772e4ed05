use Rattle.std.proofs.Common.{◌≡◌, take}
use Rattle.std.specs.List.{flat_map}
use Rattle.elf_image.specs.Notes.{listed}
use Rattle.elf_image.specs.File.{certificates_at}
use Rattle.elf_image.proofs.note.find_certificate.Given as goal

-- the one in the note segments so far
abbrev pub invariant-loop-header : goal.invariant-loop-header
invariant-loop-header l = listed l.found ≡ flat_map (certificates_at l.file) (take l.header-index l.headers)
