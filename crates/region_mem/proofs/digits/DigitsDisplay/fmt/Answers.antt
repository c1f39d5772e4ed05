use Rattle.std.proofs.Common.{◌≡◌, Option, Some, List, ℕ, refl, subst}
use Rattle.std.specs.Fmt.{DisplaysOnOk, styled_digits_output}
use Rattle.region_mem.specs.Digits.{digits_text}
use Rattle.region_mem.proofs.DigitsLemmas.{digits_filled}
use Rattle.region_mem.proofs.digits.DigitsDisplay.fmt.Goals as goal

pub returns-clause-writes : goal.returns-clause-writes
returns-clause-writes g c =
    let shown : styled_digits_output c.in_radix.result c.laid_out.result ≡ Some (digits_text c.args.self.now.0) =
    rw (c.in_radix.ensures, c.laid_out.ensures, digits_filled c.args.self.now.0) refl in
    subst (λ (o : Option (List ℕ)). DisplaysOnOk g.W.Write.write_str_gives c.args.f.now c.write.result o c.write.new.self) shown c.write.ensures.writes
