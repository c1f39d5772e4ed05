use Rattle.std.proofs.Common.{◌≡◌, ◌+◌, length}
use Rattle.elf_image.specs.Evidence.{overlap_from}
use Rattle.elf_image.proofs.faults.first_overlap.Given as goal

-- the first two of what is left are those of all of them
abbrev pub invariant-loop-first : goal.invariant-loop-first
invariant-loop-first l =
    (overlap_from 0 l.headers ≡ overlap_from l.number l.rest)
    × (l.number + length l.rest ≡ length l.headers)

abbrev pub decreases-loop-first : goal.decreases-loop-first
decreases-loop-first l = length l.rest
