-- Mask logic on whole bytes: a byte of a mask register has the bits of eight elements,
-- the lowest first.
use Rattle.std.specs.Prelude.{ℕ, ◌==◌, Bool}
use Rattle.std.specs.Int.{w8, bit_at, bit_not}
use Rattle.std.specs.Int.RustNames.{bit_and, bit_or, bit_xor}
use Rattle.rv_decode.specs.declared.instructions.LogicOp.{LogicOp}
use Rattle.rv_decode.specs.declared.instructions.LogicOp.TheVariants.{And, Nand, Andn, Xor, Or, Nor, Orn, Xnor}

-- whether bit j of a byte is set
abbrev pub is_set : ℕ → ℕ → Bool
is_set j byte = bit_at byte j == 1

-- each bit is that of `logic_of`
unfoldable pub byte_of : LogicOp → ℕ → ℕ → ℕ
byte_of And a b = bit_and a b
byte_of Nand a b = bit_not w8 (bit_and a b)
byte_of Andn a b = bit_and a (bit_not w8 b)
byte_of Xor a b = bit_xor a b
byte_of Or a b = bit_or a b
byte_of Nor a b = bit_not w8 (bit_or a b)
byte_of Orn a b = bit_or a (bit_not w8 b)
byte_of Xnor a b = bit_not w8 (bit_xor a b)
