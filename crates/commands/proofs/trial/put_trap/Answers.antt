-- What the fault carries is written in eight digits of base 16.
use Rattle.endings.specs.WordLemmas.{word_digits}
use Rattle.commands.proofs.trial.put_trap.Goals as goal

pub returns : goal.returns
returns g c = rw (← c.number.ensures, ← c.name.ensures, ← word_digits c.number.result c.number.type_inv) c.put_all.ensures
