-- What `{:02x}` writes.
use Rattle.std.proofs.Common.{◌≡◌, ◌∙◌, ◌-◌, ℕ, Option, Some, List, [], ◌++◌, false, ap, arith, length, refl, replicate, subst}
use Rattle.std.proofs.lemmas.List.{append-nil}
use Rattle.std.specs.Fmt.{DisplaysOnOk, char_count, digits, format_spec, padded_integral, styled_digits_output}
use Rattle.explanations.specs.Address.{byte_text}
use Rattle.explanations.proofs.address.ByteDisplay.fmt.Goals as goal

two_digits : (n : ℕ) → padded_integral (format_spec 32 0 4 2 18446744073709551615) false [] (digits 16 false n) ≡ byte_text n
unfolding padded_integral char_count
two_digits n =
    let shown = digits 16 false n in
    let room : 2 - length shown - 0 - 0 ≡ 2 - length shown = omega arith in
    ap (λ k. replicate k 48 ++ (shown ++ [])) room ∙ ap (λ ds. replicate (2 - length shown) 48 ++ ds) (append-nil shown)

pub returns-clause-writes : goal.returns-clause-writes
returns-clause-writes g c =
    let shown : styled_digits_output c.in_radix.result c.laid_out.result ≡ Some (byte_text c.args.self.now.0) =
    rw (c.in_radix.ensures, c.laid_out.ensures, two_digits c.args.self.now.0) refl in
    subst (λ (o : Option (List ℕ)). DisplaysOnOk g.W.Write.write_str_gives c.args.f.now c.write.result o c.write.new.self) shown c.write.ensures.writes
