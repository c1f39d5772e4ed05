use Rattle.std.proofs.Common.{arith}
use Rattle.std.proofs.lemmas.Grind.{elements}
use Rattle.check_reasons.specs.Sums.{atom_text}
use Rattle.check_reasons.proofs.sums.AtomDisplay.fmt.Goals as goal

pub returns-then-atom-lt-FRESH-clause-writes : goal.returns-then-atom-lt-FRESH-clause-writes
unfolding atom_text
returns-then-atom-lt-FRESH-clause-writes g c = grind (arith, elements)
