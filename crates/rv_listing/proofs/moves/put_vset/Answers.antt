use Rattle.std.proofs.Common.{arith}
use Rattle.std.proofs.lemmas.Grind.{elements}
use Rattle.rv_listing.specs.Vector.{vset_text}
use Rattle.rv_listing.proofs.moves.put_vset.Goals as goal

pub returns-in-Vsetivli : goal.returns-in-Vsetivli
unfolding vset_text
returns-in-Vsetivli g c = grind (arith, elements)

pub returns-in-Vsetvl : goal.returns-in-Vsetvl
unfolding vset_text
returns-in-Vsetvl c = grind arith
