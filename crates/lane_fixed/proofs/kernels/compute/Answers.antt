-- What `search` finds late, or not at all.
use Rattle.std.proofs.Common.{arith}
use Rattle.lane_fixed.specs.ModeLemmas.{each_mode}
use Rattle.lane_fixed.proofs.kernels.compute.Goals as goal

pub returns-in-Saddu-clause-results : goal.returns-in-Saddu-clause-results
returns-in-Saddu-clause-results g c = grind (arith, each_mode)

pub returns-in-Saddu-clause-saturated : goal.returns-in-Saddu-clause-saturated
returns-in-Saddu-clause-saturated g c = grind (arith, each_mode)

pub returns-in-Sadd-clause-results : goal.returns-in-Sadd-clause-results
returns-in-Sadd-clause-results g c = grind (arith, each_mode)

pub returns-in-Sadd-clause-saturated : goal.returns-in-Sadd-clause-saturated
returns-in-Sadd-clause-saturated g c = grind (arith, each_mode)

pub returns-in-Ssubu-clause-saturated : goal.returns-in-Ssubu-clause-saturated
returns-in-Ssubu-clause-saturated g c = grind (arith, each_mode)

pub returns-in-Ssub-clause-saturated : goal.returns-in-Ssub-clause-saturated
returns-in-Ssub-clause-saturated g c = grind (arith, each_mode)

pub returns-in-Ssubu-clause-results : goal.returns-in-Ssubu-clause-results
returns-in-Ssubu-clause-results g c = grind (arith, each_mode)

pub returns-in-Ssub-clause-results : goal.returns-in-Ssub-clause-results
returns-in-Ssub-clause-results g c = grind (arith, each_mode)
