-- The range lies in the interval.
use Rattle.std.proofs.Common.{arith}
use Rattle.std.proofs.lemmas.Grind.{common_steps}
use Rattle.abs_state.specs.Edges.{is_interval_shown}
use Rattle.abs_state.proofs.edges.is_interval_shown.Goals as goal

pub returns-then-fact-range : goal.returns-then-fact-range
unfolding is_interval_shown
returns-then-fact-range g c = grind (arith, common_steps)
