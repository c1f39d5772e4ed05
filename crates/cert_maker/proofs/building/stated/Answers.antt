use Rattle.cert_maker.proofs.IsForLemmas.{room_fits}
use Rattle.std.proofs.Common.{arith}
use Rattle.std.proofs.lemmas.Grind.{common_steps}
use Rattle.cert_maker.proofs.building.stated.Goals as goal

pub returns-in-Entry-2 : goal.returns-in-Entry-2
returns-in-Entry-2 c = grind (arith, common_steps)

pub loop_pointer-requires : goal.loop_pointer-requires
loop_pointer-requires c = grind (arith, room_fits)
