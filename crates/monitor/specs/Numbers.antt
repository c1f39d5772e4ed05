-- Numbers, as they are typed.
use Rattle.std.specs.Prelude.{ℕ, Bool, ◌^◌, ◌%◌, ◌==◌, ◌&&◌, nat_le, nat_lt, List, length, Option, Some, None, if◌then◌else◌}
use Rattle.std.specs.Char.{digit_value}
use Rattle.std.specs.List.{list_all}
use Rattle.std.specs.Str.Parse.{digits_value}

-- one to `most` digits of a base, letters in either case, of a number below 2^32
abbrev pub is_spelled : ℕ → ℕ → List ℕ → Bool
is_spelled radix most word =
    nat_lt 0 (length word) && nat_le (length word) most
    && list_all (λ byte. nat_lt (digit_value byte) radix) word
    && nat_lt (digits_value radix word) (2 ^ 32)

unfoldable pub spelled : ℕ → ℕ → List ℕ → Option ℕ
spelled radix most word =
    if is_spelled radix most word then Some (digits_value radix word) else None

-- a number, where it passes a test
abbrev pub only : (ℕ → Bool) → Option ℕ → Option ℕ
only test None = None
only test (Some n) = if test n then Some n else None

-- an address, and the address of an instruction
abbrev pub address_of : List ℕ → Option ℕ
address_of word = spelled 16 8 word

abbrev pub aligned_of : List ℕ → Option ℕ
aligned_of word = only (λ n. n % 4 == 0) (address_of word)

-- a decimal number, the number of a register, and how many bytes or words are shown
abbrev pub number_of : List ℕ → Option ℕ
number_of word = spelled 10 10 word

abbrev pub register_of : List ℕ → Option ℕ
register_of word = only (λ n. nat_lt n 32) (number_of word)

abbrev pub count_of : List ℕ → Option ℕ
count_of word = only (λ n. nat_le 1 n && nat_le n 256) (number_of word)
