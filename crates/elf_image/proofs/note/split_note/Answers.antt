use Rattle.std.proofs.Common.{arith}
use Rattle.std.proofs.lemmas.Grind.{common_steps}
use Rattle.elf_image.specs.Notes.{after_note, has_note, note_of}
use Rattle.elf_image.proofs.note.split_note.Goals as goal

pub returns-clause-shorter : goal.returns-clause-shorter
unfolding has_note note_of after_note
returns-clause-shorter c = grind (arith, common_steps)
