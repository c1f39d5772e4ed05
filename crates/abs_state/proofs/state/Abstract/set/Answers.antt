-- What the block states is known, and nothing else.
use Rattle.std.proofs.Common.{arith}
use Rattle.std.proofs.lemmas.Grind.{common_steps}
use Rattle.abs_state.specs.Blocks.{at_block_of}
use Rattle.abs_state.proofs.state.Abstract.set.Goals as goal

pub returns-clause-state : goal.returns-clause-state
unfolding at_block_of
returns-clause-state g c = grind (arith, common_steps)

pub invariant_of-self : goal.invariant_of-self
unfolding at_block_of
invariant_of-self g c = grind arith
