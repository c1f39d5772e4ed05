use Rattle.std.proofs.Common.{refl, sym}
use Rattle.check_reasons.specs.Unshown.{unshown_order}
use Rattle.check_reasons.proofs.unshown.unshown_order.Goals as goal

pub returns-in-Some : goal.returns-in-Some
unfolding unshown_order
returns-in-Some g c = rw (c.number_on.ensures, c.number_on-in-Some.ensures, sym c.first_order.ensures, c.in-Some.is) refl
