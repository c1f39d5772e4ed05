use Rattle.std.proofs.Common.{◌≡◌, ◌≤◌, filter, take, length}
use Rattle.elf_image.specs.File.{is_segment}
use Rattle.elf_image.proofs.header.HeaderTable.segments.Given as goal

-- those of the entries so far
abbrev pub invariant-loop-header : goal.invariant-loop-header
invariant-loop-header l = (l.table ≡ filter is_segment (take l.header-index l.header-items)) × (length l.table ≤ l.header-index)
