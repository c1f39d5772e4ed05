-- By cases, in `proofs/Division.antt`.
use Rattle.scalar_core.proofs.Division.{divides_signed, divides_unsigned}
use Rattle.scalar_core.proofs.laws.division_with_remainder.Goals as goal

pub returns : goal.returns
returns c = record { signed = divides_signed; unsigned = divides_unsigned }
