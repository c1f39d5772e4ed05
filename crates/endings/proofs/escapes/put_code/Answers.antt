-- One digit, or two.
use Rattle.std.proofs.Common.{false, arith}
use Rattle.std.proofs.lemmas.Fmt.{hex_one_digit, hex_two_digits}
use Rattle.endings.proofs.escapes.put_code.Goals as goal

pub returns-then-code-lt16 : goal.returns-then-code-lt16
returns-then-code-lt16 g c = rw (hex_one_digit false c.args.code c.if-code-lt16.true, ← c.digit.ensures) c.put.ensures

pub returns-else-code-lt16 : goal.returns-else-code-lt16
returns-else-code-lt16 g c =
    rw (hex_two_digits false c.args.code c.if-code-lt16.false (omega (arith, c.ranges.code.fits)), ← c.digit-high.ensures, ← c.digit-low.ensures) c.put-else-code-lt16.ensures
