-- The numbers so far are those of the elements.
use Rattle.std.proofs.Common.{◌≡◌, map, take}
use Rattle.vector_core.proofs.elements.numbers_of.Given as goal

abbrev pub invariant-loop-i : goal.invariant-loop-i
invariant-loop-i g l = take l.i l.out ≡ map g.E.Element.number (take l.i l.elements)
