use Rattle.std.proofs.Common.{refl, sym}
use Rattle.check_reasons.specs.Unshown.{unshown_interval}
use Rattle.check_reasons.proofs.unshown.unshown_interval.Goals as goal

pub returns-in-Some : goal.returns-in-Some
unfolding unshown_interval
returns-in-Some g c = rw (c.number_on.ensures, sym c.first_interval.ensures, c.in-Some.is) refl
