-- Rounding off the lowest d bits of a number ("Vector Fixed-Point Rounding Mode Register vxrm"):
-- what is left without them, and 1 more where the mode rounds up.
use Rattle.std.specs.Prelude.{ℕ, ◌*◌, ◌^◌, ◌==◌, nat_lt, nat_le, Bool, false, not, ◌&&◌, ◌||◌, ℤ, pos, ◌+ℤ◌, unsigned_abs}
use Rattle.std.specs.Int.{int_div_euclid, int_rem_euclid, from_bool}
use Rattle.lane_fixed.specs.declared.operations.RoundingMode.{RoundingMode}
use Rattle.lane_fixed.specs.declared.operations.RoundingMode.TheVariants.{NearestUp, NearestEven, Down, Odd}

-- a number without its lowest d bits: the quotient by 2^d, rounded down
unfoldable pub shifted : ℕ → ℤ → ℤ
shifted d v = int_div_euclid v (pos (2 ^ d))

-- the number that the lowest k bits hold, by two's complement
unfoldable pub low_bits : ℕ → ℤ → ℕ
low_bits k v = unsigned_abs (int_rem_euclid v (pos (2 ^ k)))

abbrev pub is_odd : ℤ → Bool
is_odd v = low_bits 1 v == 1

-- whether the mode rounds up, where `quotient` is left and the d lowest bits held `rest`
unfoldable pub rounds_up : RoundingMode → ℤ → ℕ → ℕ → Bool
rounds_up NearestUp quotient rest d = nat_le (2 ^ d) (2 * rest)
rounds_up NearestEven quotient rest d =
    nat_lt (2 ^ d) (2 * rest) || ((2 ^ d == 2 * rest) && is_odd quotient)
rounds_up Down quotient rest d = false
rounds_up Odd quotient rest d = not (rest == 0) && not (is_odd quotient)

-- v, rounded to a multiple of 2^d and divided by it
unfoldable pub rounded : RoundingMode → ℤ → ℕ → ℤ
rounded mode v d = shifted d v +ℤ pos (from_bool (rounds_up mode (shifted d v) (low_bits d v) d))
