use Rattle.std.proofs.Common.{arith, rules}
use Rattle.std.proofs.lemmas.Grind.{common_steps}
use Rattle.lane_fixed.specs.FixedPoint.{clip_element}
use Rattle.lane_fixed.specs.FixedPoint.{clip_saturates}
use Rattle.lane_fixed.specs.FixedPoint.{clip_unclipped}
use Rattle.lane_fixed.proofs.elements.narrowed.Goals as goal

pub returns-clause-value : goal.returns-clause-value
unfolding clip_element clip_saturates clip_unclipped
returns-clause-value g c = search rules

pub returns-clause-saturated : goal.returns-clause-saturated
unfolding clip_element clip_saturates clip_unclipped
returns-clause-saturated g c = grind (arith, common_steps)
