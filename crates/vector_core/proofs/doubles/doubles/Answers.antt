use Rattle.std.proofs.Common.{arith}
use Rattle.vreg_groups.specs.Legality.{element_bits}
use Rattle.vector_core.proofs.Inside.{doubles_inside}
use Rattle.vector_core.proofs.doubles.doubles.Goals as goal

pub double_vl-vl-requires-clause-inside : goal.double_vl-vl-requires-clause-inside
unfolding element_bits
double_vl-vl-requires-clause-inside g c = grind (arith, doubles_inside)

pub unreachable-requires : goal.unreachable-requires
unfolding element_bits
unreachable-requires g c = grind (arith, doubles_inside)
