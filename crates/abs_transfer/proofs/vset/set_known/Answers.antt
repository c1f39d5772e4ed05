use Rattle.std.proofs.Common.{arith}
use Rattle.abs_transfer.specs.Vset.{known_request}
use Rattle.abs_transfer.specs.ConfigurationLemmas.{type_fits}
use Rattle.abs_transfer.proofs.vset.set_known.Goals as goal

pub overflow_cast-bits : goal.overflow_cast-bits
unfolding known_request
overflow_cast-bits g c = grind (arith, type_fits)
