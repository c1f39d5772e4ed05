use Rattle.std.proofs.Common.{◌≡◌, length, map}
use Rattle.std.specs.List.{range_with_len}
use Rattle.elf_image.specs.File.{header_offset, program_header_at}
use Rattle.elf_image.proofs.header.HeaderTable.read.Given as goal

-- the entries so far
abbrev pub invariant-loop-i : goal.invariant-loop-i
invariant-loop-i l = (l.table ≡ map (λ i. program_header_at (header_offset i l.file) l.file) (range_with_len 0 l.i)) × (length l.table ≡ l.i)
