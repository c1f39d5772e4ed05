use Rattle.std.proofs.Common.{rules}
use Rattle.commands.proofs.TrialLemmas.{passed-each}
use Rattle.commands.proofs.tries.passed_params.Goals as goal

pub returns : goal.returns
returns c = passed-each c.args.params.now c.loop-place.made (search rules) (λ k below. c.loop-place.invariant.filled k (search rules))
