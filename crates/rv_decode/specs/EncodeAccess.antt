-- The word of a vector load or store, as "Vector Load/Store Instruction Encoding" lays it out.
use Rattle.std.specs.Prelude.{◌≡◌, ℕ, ◌+◌, ◌*◌, ◌%◌, ◌^◌, Bool, false, true}
use Rattle.rv_decode.specs.Encode.{low_fields, IsRegister}
use Rattle.rv_decode.specs.EncodeVector.{vm_of}
use Rattle.rv_decode.specs.Words.{Count, Direction, Addressing, VMem, Width, One, Two, Four, Eight, W8, W16, W32}

abbrev pub opcode_of_direction : Direction → ℕ
opcode_of_direction Direction.Load = 0x07
opcode_of_direction Direction.Store = 0x27

-- the width field of an access
abbrev pub f3_of_width : Width → ℕ
f3_of_width W8 = 0
f3_of_width W16 = 5
f3_of_width W32 = 6

-- how many registers
abbrev pub number_of_count : Count → ℕ
number_of_count One = 1
number_of_count Two = 2
number_of_count Four = 4
number_of_count Eight = 8

-- nf says one less than the number of whole registers, and is 0 elsewhere
abbrev pub nf_of_count : Count → ℕ
nf_of_count One = 0
nf_of_count Two = 1
nf_of_count Four = 3
nf_of_count Eight = 7

-- mop: unit stride, indexed in any order, strided, indexed in order
abbrev pub mop_of_order : Bool → ℕ
mop_of_order false = 1
mop_of_order true = 3

-- `kind` stands in bits 24:20: lumop or sumop, rs2, or vs2. mew is 0.
unfoldable pub encode_m : ℕ → ℕ → ℕ → ℕ → Width → VMem → ℕ
encode_m nf mop vm kind width access =
    nf * 2 ^ 29 + mop * 2 ^ 26 + vm * 2 ^ 25 + kind * 2 ^ 20 +
    low_fields (opcode_of_direction access.direction) access.values (f3_of_width width) access.rs1

abbrev pub encode_place : Addressing → VMem → ℕ
encode_place (Addressing.Unit width masked) access = encode_m 0 0 (vm_of masked) 0 width access
encode_place (Addressing.Strided width rs2 masked) access =
    encode_m 0 2 (vm_of masked) rs2 width access
encode_place (Addressing.Indexed width vs2 ordered masked) access =
    encode_m 0 (mop_of_order ordered) (vm_of masked) vs2 width access
encode_place Addressing.Mask access = encode_m 0 0 1 0x0b W8 access
encode_place (Addressing.Whole width count) access = encode_m (nf_of_count count) 0 1 8 width access

unfoldable pub encode_access : VMem → ℕ
encode_access access = encode_place access.place access

-- whole registers begin at a multiple of their number, and are stored as bytes
abbrev pub WholeFits : Direction → Width → Type 0
WholeFits Direction.Load width = Unit {0}
WholeFits Direction.Store width = width ≡ W8

abbrev pub PlaceFits : Addressing → VMem → Type 0
PlaceFits (Addressing.Unit width masked) access = Unit {0}
PlaceFits (Addressing.Strided width rs2 masked) access = IsRegister rs2
PlaceFits (Addressing.Indexed width vs2 ordered masked) access = IsRegister vs2
PlaceFits Addressing.Mask access = Unit {0}
PlaceFits (Addressing.Whole width count) access =
    (access.values % number_of_count count ≡ 0) × WholeFits access.direction width

abbrev pub AccessFits : VMem → Type 0
AccessFits access = IsRegister access.values × IsRegister access.rs1 × PlaceFits access.place access
