-- What each single-width integer operation of the vector extension makes of one element: a is the
-- element of vs2, and b that of vs1, the scalar or the immediate. All are numbers below 2^SEW, and
-- so is the result; a signed operand is read by two's complement.
use Rattle.std.specs.Prelude.{ℕ, ◌+◌, ◌-◌, ◌*◌, ◌/◌, ◌%◌, ◌^◌, min, max, Bool, true, false, not, ◌==◌, nat_lt, nat_le, int_lt, int_le, int_div, int_rem, if◌then◌else◌}
use Rattle.std.specs.Int.{Width, w8, w16, w32, w64, w128, cast_signed, cast_unsigned, int_min, int_max, int_shr}
use Rattle.std.specs.Int.RustNames.{bit_and, bit_or, bit_xor}
use mir.Val.{bits}
use Rattle.rv_decode.specs.declared.instructions.IntOp.{IntOp}
use Rattle.rv_decode.specs.declared.instructions.IntOp.TheVariants.{Add, Sub, Rsub, Minu, Min, Maxu, Max, And, Or, Xor, Sll, Srl, Sra, Mul, Mulhu, Mulhsu, Mulh, Divu, Div, Remu, Rem}
use Rattle.rv_decode.specs.declared.instructions.CompareOp.{CompareOp}
use Rattle.rv_decode.specs.declared.instructions.CompareOp.TheVariants.{Eq, Ne, Ltu, Lt, Leu, Le, Gtu, Gt}
use Rattle.rv_decode.specs.declared.instructions.CarryOp.{CarryOp}
use Rattle.rv_decode.specs.declared.instructions.CarryOp.TheVariants.{Adc, Sbc}
use Rattle.rv_decode.specs.declared.instructions.MultiplyAddOp.{MultiplyAddOp}
use Rattle.rv_decode.specs.declared.instructions.MultiplyAddOp.TheVariants.{Macc, Nmsac, Madd, Nmsub}

-- the width of twice as many bits
abbrev pub double : Width → Width
double w8 = w16
double w16 = w32
double w32 = w64
double w64 = w128
double w128 = w128

-- a, sign-extended from SEW to 2*SEW bits
abbrev pub extended : Width → ℕ → ℕ
extended w a = cast_unsigned (double w) (cast_signed w a)

-- the high SEW bits of a product that is taken modulo 2^(2*SEW)
abbrev pub high_half : Width → ℕ → ℕ
high_half w p = p % 2 ^ bits (double w) / 2 ^ bits w

-- a - b, modulo 2^SEW
abbrev pub difference : Width → ℕ → ℕ → ℕ
difference w a b = (a + (2 ^ bits w - b)) % 2 ^ bits w

-- a shift reads the low log2(SEW) bits of b alone
abbrev pub shift_amount : Width → ℕ → ℕ
shift_amount w b = b % bits w

-- vadd .. vrem. Division by zero gives all ones and the dividend as its remainder; the quotient of
-- the most negative number by -1 is that number, with the remainder 0.
unfoldable pub element : IntOp → Width → ℕ → ℕ → ℕ
element Add w a b = (a + b) % 2 ^ bits w
element Sub w a b = difference w a b
element Rsub w a b = difference w b a
element Minu w a b = min a b
element Min w a b = cast_unsigned w (int_min (cast_signed w a) (cast_signed w b))
element Maxu w a b = max a b
element Max w a b = cast_unsigned w (int_max (cast_signed w a) (cast_signed w b))
element And w a b = bit_and a b
element Or w a b = bit_or a b
element Xor w a b = bit_xor a b
element Sll w a b = a * 2 ^ shift_amount w b % 2 ^ bits w
element Srl w a b = a / 2 ^ shift_amount w b
element Sra w a b = cast_unsigned w (int_shr (cast_signed w a) (shift_amount w b))
element Mul w a b = a * b % 2 ^ bits w
element Mulhu w a b = high_half w (a * b)
element Mulhsu w a b = high_half w (extended w a * b)
element Mulh w a b = high_half w (extended w a * extended w b)
element Divu w a b = if b == 0 then 2 ^ bits w - 1 else a / b
element Div w a b =
    if b == 0 then 2 ^ bits w - 1 else cast_unsigned w (int_div (cast_signed w a) (cast_signed w b))
element Remu w a b = if b == 0 then a else a % b
element Rem w a b =
    if b == 0 then a else cast_unsigned w (int_rem (cast_signed w a) (cast_signed w b))

-- vmseq .. vmsgt: vs2 against b
unfoldable pub compares : CompareOp → Width → ℕ → ℕ → Bool
compares Eq w a b = a == b
compares Ne w a b = not (a == b)
compares Ltu w a b = nat_lt a b
compares Lt w a b = int_lt (cast_signed w a) (cast_signed w b)
compares Leu w a b = nat_le a b
compares Le w a b = int_le (cast_signed w a) (cast_signed w b)
compares Gtu w a b = nat_lt b a
compares Gt w a b = int_lt (cast_signed w b) (cast_signed w a)

-- the carry or borrow as a number
abbrev pub bit : Bool → ℕ
bit false = 0
bit true = 1

-- vadc and vsbc: vs2 + b + the bit, and vs2 - b - the bit
unfoldable pub carried : CarryOp → Width → ℕ → ℕ → Bool → ℕ
carried Adc w a b c = (a + b + bit c) % 2 ^ bits w
carried Sbc w a b c = difference w (difference w a b) (bit c)

-- vmadc and vmsbc: the carry out of the sum, and the borrow of the difference
unfoldable pub carries : CarryOp → Width → ℕ → ℕ → Bool → Bool
carries Adc w a b c = nat_le (2 ^ bits w) (a + b + bit c)
carries Sbc w a b c = nat_lt a (b + bit c)

-- vmacc, vnmsac, vmadd, vnmsub: a is vs2's element, b that of vs1 or the scalar, d
-- the old one of vd
unfoldable pub multiply_added : MultiplyAddOp → Width → ℕ → ℕ → ℕ → ℕ
multiply_added Macc w a b d = (b * a + d) % 2 ^ bits w
multiply_added Nmsac w a b d = difference w d (b * a % 2 ^ bits w)
multiply_added Madd w a b d = (b * d + a) % 2 ^ bits w
multiply_added Nmsub w a b d = difference w a (b * d % 2 ^ bits w)
