use Rattle.std.proofs.Common.{◌∙◌, w64}
use Rattle.std.proofs.lemmas.Int.{to_z-of_z}
use Rattle.lane_fixed.proofs.RoundingLemmas.{shifted_is, shifted_fits}
use Rattle.lane_fixed.proofs.rounding.shifted.Goals as goal

pub returns-clause-value : goal.returns-clause-value
returns-clause-value c =
    rw (to_z-of_z w64 c.args.value c.ranges.value)
    (to_z-of_z w64 _ (shifted_fits c.args.count c.args.value c.ranges.value) ∙ shifted_is c.args.count c.args.value)
