-- How wide an element is ("Vector Type Register, vtype"), and what a load reads ("Load and Store
-- Instructions").
use Rattle.std.specs.Prelude.{ℕ, ◌/◌}
use Rattle.rv_decode.specs.declared.instructions.LoadKind.{LoadKind}
use Rattle.rv_decode.specs.declared.instructions.LoadKind.TheVariants as load
use Rattle.rv_decode.specs.declared.instructions.Width.{Width}
use Rattle.rv_decode.specs.declared.instructions.Width.TheVariants.{W8, W16, W32}

-- the number of bits, and of bytes, of an element
abbrev pub bits_of_width : Width → ℕ
bits_of_width W8 = 8
bits_of_width W16 = 16
bits_of_width W32 = 32

abbrev pub bytes_of_width : Width → ℕ
bytes_of_width width = bits_of_width width / 8

-- lb and lbu read 8 bits, lh and lhu 16, lw 32
abbrev pub width_of_load : LoadKind → Width
width_of_load load.Byte = W8
width_of_load load.Half = W16
width_of_load load.Word = W32
width_of_load load.ByteUnsigned = W8
width_of_load load.HalfUnsigned = W16
