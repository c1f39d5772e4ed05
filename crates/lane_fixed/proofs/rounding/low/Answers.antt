use Rattle.std.proofs.Common.{arith, w64}
use Rattle.std.proofs.lemmas.Int.{to_z-of_z}
use Rattle.std.proofs.lemmas.Nat.{one_shl}
use Rattle.lane_fixed.proofs.RoundingLemmas.{low_is}
use Rattle.lane_fixed.proofs.rounding.low.Goals as goal

pub returns-clause-value : goal.returns-clause-value
returns-clause-value c = rw (c.cast_unsigned.ensures, to_z-of_z w64 c.args.value c.ranges.value, one_shl c.args.count 64 (omega (arith, c.requires))) (low_is c.args.count c.args.value c.requires c.ranges.value)
