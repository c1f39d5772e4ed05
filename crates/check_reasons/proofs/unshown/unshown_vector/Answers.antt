use Rattle.std.proofs.Common.{sym}
use Rattle.check_reasons.specs.Unshown.{unshown_vector}
use Rattle.check_reasons.proofs.unshown.unshown_vector.Goals as goal

pub returns-in-Some : goal.returns-in-Some
unfolding unshown_vector
returns-in-Some g c = rw (sym c.first_vector.ensures, c.in-Some.is) cc
