-- What `{:08x}` writes.
use Rattle.std.proofs.Common.{◌≡◌, ◌∙◌, ◌-◌, ℕ, [], ◌++◌, false, ap, arith, length, replicate}
use Rattle.std.proofs.lemmas.List.{append-nil}
use Rattle.std.specs.Fmt.{char_count, digits, format_spec, padded_integral}
use Rattle.region_mem.specs.Digits.{digits_text}

pub digits_filled : (n : ℕ) → padded_integral (format_spec 32 0 4 8 18446744073709551615) false [] (digits 16 false n) ≡ digits_text n
unfolding padded_integral char_count
digits_filled n =
    let shown = digits 16 false n in
    let room : 8 - length shown - 0 - 0 ≡ 8 - length shown = omega arith in
    ap (λ k. replicate k 48 ++ (shown ++ [])) room ∙ ap (λ ds. replicate (8 - length shown) 48 ++ ds) (append-nil shown)
