-- The elements so far are the value.
use Rattle.std.proofs.Common.{◌≡◌, take, replicate}
use Rattle.vector_mem.proofs.elements.splat.Given as goal

abbrev pub invariant-loop-element : goal.invariant-loop-element
invariant-loop-element g l = take l.element-index l.values ≡ replicate l.element-index l.value
