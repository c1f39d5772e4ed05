use Rattle.std.proofs.Common.{rules}
use Rattle.commands.proofs.TrialLemmas.{params_for-each}
use Rattle.commands.proofs.tries.params_for.Goals as goal

pub returns : goal.returns
returns c = params_for-each c.args.params.now c.args.args.now c.loop-place.made (search rules) (search rules) (λ k below. c.loop-place.invariant.filled k (search rules))
