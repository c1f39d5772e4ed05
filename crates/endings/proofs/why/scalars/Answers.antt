use Rattle.std.proofs.Common.{rules, arith}
use Rattle.sandbox_run.specs.SessionLemmas.{scalars-each}
use Rattle.std.proofs.lemmas.Grind.{common_steps}
use Rattle.endings.proofs.why.scalars.Goals as goal

pub returns : goal.returns
returns c = scalars-each c.loop-place.made c.args.places.now (search rules) (λ k below. c.loop-place.invariant.filled k (search rules))

pub loop-place-preserved : goal.loop-place-preserved
loop-place-preserved c = grind (arith, common_steps)
