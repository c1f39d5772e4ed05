use Rattle.std.proofs.Common.{arith}
use Rattle.std.proofs.lemmas.Grind.{common_steps, moves}
use Rattle.vreg_groups.specs.NewElements.{write_of}
use Rattle.vreg_groups.proofs.registers.VregFile.write_group_all.Goals as goal

pub nonzero_div-count : goal.nonzero_div-count
unfolding write_of
nonzero_div-count g c = grind (arith, moves)

pub returns-clause-meaning : goal.returns-clause-meaning
unfolding write_of
returns-clause-meaning g c = grind (arith, common_steps)
