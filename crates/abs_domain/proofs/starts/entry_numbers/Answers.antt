use Rattle.std.proofs.Common.{length, ap, ◌∙◌}
use Rattle.abs_domain.specs.Numbers.{NumbersView}
use Rattle.abs_domain.specs.StartNumberLemmas.{atoms_many}
use Rattle.abs_domain.proofs.starts.entry_numbers.Goals as goal

pub returns-clause-few : goal.returns-clause-few
returns-clause-few g c = ap (λ (n : NumbersView). length n.atoms) c.by.ensures ∙ (ap length c.put_atoms.ensures.items ∙ atoms_many _ _)
