use Rattle.region_mem.specs.StartLemmas.{gives_arguments_back}
use Rattle.region_mem.proofs.laws.gives_arguments_back.Goals as goal

pub returns : goal.returns
returns c = gives_arguments_back
