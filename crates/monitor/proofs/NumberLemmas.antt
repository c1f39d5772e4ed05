-- What digits spell, by tests and by what they say.
use Rattle.std.proofs.Common.{◌≡◌, ◌<◌, ◌≤◌, ◌==◌, ◌^◌, ◌&&◌, ℕ, Bool, true, false, List, [], ◌∷◌, length, slice_index, Some, None, Result, Ok, Err, nat_lt, nat_le, refl, arith, ◌⊎◌, inl, inr, ap, sym}
use Rattle.std.specs.Char.{digit_value}
use Rattle.std.specs.List.{list_all}
use Rattle.std.specs.Result.{result_ok}
use Rattle.std.specs.Str.Parse.{AllDigits, IsNumeral, ParsesUnsigned, digits_value, without_leading_plus}
use Rattle.std.proofs.lemmas.Bool.Decides.{nat_tests}
use Rattle.monitor.specs.Numbers.{is_spelled, spelled}

digits_pass : (radix : ℕ) (word : List ℕ) → AllDigits radix word → list_all (λ byte. nat_lt (digit_value byte) radix) word ≡ true
digits_pass radix [] all = refl
digits_pass radix (byte ∷ bytes) all =
    let here : nat_lt (digit_value byte) radix ≡ true = grind (arith, nat_tests, all.0) in
    rw (here, digits_pass radix bytes all.1) refl

both : (a b : Bool) → (a && b) ≡ true → (a ≡ true) × (b ≡ true)
both true b is = (refl, is)
both false b is = cc

digits_are : (radix : ℕ) (word : List ℕ) → list_all (λ byte. nat_lt (digit_value byte) radix) word ≡ true → AllDigits radix word
digits_are radix [] is = tt
digits_are radix (byte ∷ bytes) is =
    let parts = both (nat_lt (digit_value byte) radix) (list_all (λ b. nat_lt (digit_value b) radix) bytes) is in
    (grind (arith, nat_tests, parts.0), digits_are radix bytes parts.1)

-- a text without a plus
plain : (word : List ℕ) → (slice_index word 0 == 43) ≡ false → without_leading_plus word ≡ word
plain word none = rw none refl

passes : (radix most : ℕ) (word : List ℕ) → length word ≤ most → IsNumeral radix word → digits_value radix word < 2 ^ 32 → is_spelled radix most word ≡ true
passes radix most word short numeral below =
    let some : nat_lt 0 (length word) ≡ true = grind (arith, nat_tests, numeral.0) in
    let few : nat_le (length word) most ≡ true = grind (arith, nat_tests, short) in
    let less : nat_lt (digits_value radix word) (2 ^ 32) ≡ true = grind (arith, nat_tests, below) in
    rw (some, few, digits_pass radix word numeral.1, less) refl

-- what the test says
record Spells (radix most : ℕ) (word : List ℕ) : Type 0 where
  pub numeral : IsNumeral radix word
  pub below : digits_value radix word < 2 ^ 32
  pub short : length word ≤ most

says : (radix most : ℕ) (word : List ℕ) → is_spelled radix most word ≡ true → Spells radix most word
says radix most word is =
    let all = both (nat_lt 0 (length word) && nat_le (length word) most && list_all (λ byte. nat_lt (digit_value byte) radix) word)
    (nat_lt (digits_value radix word) (2 ^ 32)) is in
    let sizes = both (nat_lt 0 (length word) && nat_le (length word) most) (list_all (λ byte. nat_lt (digit_value byte) radix) word) all.0 in
    let size = both (nat_lt 0 (length word)) (nat_le (length word) most) sizes.0 in
    record {
      numeral = (grind (arith, nat_tests, size.0), digits_are radix word sizes.1);
      below = grind (arith, nat_tests, all.1);
      short = grind (arith, nat_tests, size.1);
    }

either : (b : Bool) → (b ≡ true) ⊎ (b ≡ false)
either true = inl refl
either false = inr refl

-- what is no spelling has no number
none_if : (radix most : ℕ) (word : List ℕ) → (is_spelled radix most word ≡ true → ⊥) → spelled radix most word ≡ None
unfolding spelled
none_if radix most word not =
    elim (either (is_spelled radix most word)) as (λ _. spelled radix most word ≡ None) [
      | inl is ↦ absurd (not is)
      | inr is ↦ rw is refl
    ]

pub parsed : {E : Type 0} (radix most : ℕ) (word : List ℕ) (r : Result ℕ E) → length word ≤ most → (slice_index word 0 == 43) ≡ false
    → ParsesUnsigned 32 radix word r → result_ok r ≡ spelled radix most word
unfolding spelled
parsed radix most word (Ok n) short none parses =
    let numeral = rw (plain word none) at parses in
    rw (passes radix most word short numeral.0.0 numeral.0.1) (ap Some numeral.1)
parsed radix most word (Err e) short none parses =
    let numeral = rw (plain word none) at parses in
    sym (none_if radix most word (λ is. let said = says radix most word is in numeral (said.numeral, said.below)))

pub too_long : (radix most : ℕ) (word : List ℕ) → most < length word → spelled radix most word ≡ None
too_long radix most word long = none_if radix most word (λ is. let said = says radix most word is in omega (arith, long, said.short))

-- a plus is no digit
no_plus : (radix : ℕ) (word : List ℕ) → radix ≤ 36 → (slice_index word 0 == 43) ≡ true → IsNumeral radix word → ⊥
no_plus radix [] small is numeral = omega (arith, numeral.0)
no_plus radix (byte ∷ bytes) small is numeral =
    let plus : byte ≡ 43 = grind (arith, nat_tests, is) in
    let value = rw plus at numeral.1.0 in
    omega (arith, value, small)

pub with_plus : (radix most : ℕ) (word : List ℕ) → radix ≤ 36 → (slice_index word 0 == 43) ≡ true → spelled radix most word ≡ None
with_plus radix most word small is =
    none_if radix most word (λ passed. no_plus radix word small is (says radix most word passed).numeral)
