-- An address is written in eight digits of base 16.
use Rattle.std.proofs.Common.{◌++◌, append_assoc}
use Rattle.std.specs.Prelude.{codes}
use Rattle.region_mem.specs.Digits.{digits_text}
use Rattle.endings.specs.WordLemmas.{word_digits}
use Rattle.endings.proofs.texts.put_at.Goals as goal

pub returns : goal.returns
returns g c = rw (append_assoc c.args.name.now (codes " at " ++ digits_text c.args.address) (codes "\n"), ← word_digits c.args.address c.ranges.address.fits) c.put_all.ensures
