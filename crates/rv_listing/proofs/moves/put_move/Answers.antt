use Rattle.std.proofs.Common.{arith}
use Rattle.std.proofs.lemmas.Grind.{elements}
use Rattle.rv_listing.specs.Vector.{move_text}
use Rattle.rv_listing.proofs.moves.put_move.Goals as goal

pub returns-in-FromScalar : goal.returns-in-FromScalar
unfolding move_text
returns-in-FromScalar g c = grind (arith, elements)
