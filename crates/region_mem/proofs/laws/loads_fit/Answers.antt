use Rattle.region_mem.specs.ByteLemmas.{numbers_fit, loads_fit}
use Rattle.region_mem.proofs.laws.loads_fit.Goals as goal

pub returns-clause-numbers : goal.returns-clause-numbers
returns-clause-numbers c = numbers_fit

pub returns-clause-loads : goal.returns-clause-loads
returns-clause-loads c = loads_fit
