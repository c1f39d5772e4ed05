use Rattle.std.proofs.Common.{◌≡◌, map, take}
use Rattle.elf_image.specs.File.{segment_of}
use Rattle.elf_image.proofs.image.load_segments.Given as goal

-- the segments of the headers so far
abbrev pub invariant-loop-header : goal.invariant-loop-header
invariant-loop-header g l = l.segments.items ≡ map (segment_of l.file) (take l.header-index l.headers)
