use Rattle.std.proofs.Common.{◌≡◌, map, take}
use Rattle.vector_mem.proofs.operands.read_elements.Given as goal

abbrev pub invariant-loop-i : goal.invariant-loop-i
invariant-loop-i g l = take l.i l.numbers ≡ map g.E.Element.number (take l.i l.elements)
