-- The rows of the vector loads and stores ("Vector Load/Store Instruction Encoding", "Vector
-- Load/Store Addressing Modes"), but for segments and fault-only-first loads.
use Rattle.std.specs.Prelude.{ℕ, Bool, true, false, List, [], ◌∷◌, ◌++◌}
use Rattle.rv_decode.specs.Bits.{rd_of, rs1_of, rs2_of}
use Rattle.rv_decode.specs.Rows.{Field, Row, RowGroup, f3, field, row, group}
use Rattle.rv_decode.specs.Operations.{vm, is_masked}
use Rattle.rv_decode.specs.Words.{Count, Direction, Insn, Addressing, Width, One, Two, Four, Eight, W8, W16, W32}

-- one less than the number of fields of a segment, or of whole registers
abbrev pub nf : ℕ → Field
nf value = field 29 3 value

-- the addressing mode, and mew above it, which is 0
abbrev pub mop : ℕ → Field
mop value = field 26 3 value

-- the kind of a unit-stride access: lumop or sumop
abbrev pub kind : ℕ → Field
kind value = field 20 5 value

-- vd or vs3 is a multiple of 2 ^ width
abbrev pub aligned : ℕ → Field
aligned width = field 7 width 0

-- what an access means, by its place
abbrev pub access : Direction → Addressing → ℕ → Insn
access direction place word =
    Insn.VMem
    (record { direction = direction; place = place; values = rd_of word; rs1 = rs1_of word })

abbrev pub unit : Direction → Width → ℕ → Insn
unit direction width word = access direction (Addressing.Unit width (is_masked word)) word

abbrev pub strided : Direction → Width → ℕ → Insn
strided direction width word =
    access direction (Addressing.Strided width (rs2_of word) (is_masked word)) word

abbrev pub indexed : Bool → Direction → Width → ℕ → Insn
indexed ordered direction width word =
    access direction (Addressing.Indexed width (rs2_of word) ordered (is_masked word)) word

abbrev pub mask : Direction → ℕ → Insn
mask direction word = access direction Addressing.Mask word

abbrev pub whole : Count → Direction → Width → ℕ → Insn
whole count direction width word = access direction (Addressing.Whole width count) word

-- unit-stride, indexed in any order, strided, indexed in order
unfoldable pub element_rows : Direction → Width → List Row
element_rows direction width =
    row (mop 0 ∷ kind 0 ∷ nf 0 ∷ []) (unit direction width) ∷
    row (mop 1 ∷ nf 0 ∷ []) (indexed false direction width) ∷
    row (mop 2 ∷ nf 0 ∷ []) (strided direction width) ∷
    row (mop 3 ∷ nf 0 ∷ []) (indexed true direction width) ∷
    []

-- whole registers
unfoldable pub whole_rows : Direction → Width → List Row
whole_rows direction width =
    row (mop 0 ∷ kind 8 ∷ vm 1 ∷ nf 0 ∷ []) (whole One direction width) ∷
    row (mop 0 ∷ kind 8 ∷ vm 1 ∷ nf 1 ∷ aligned 1 ∷ []) (whole Two direction width) ∷
    row (mop 0 ∷ kind 8 ∷ vm 1 ∷ nf 3 ∷ aligned 2 ∷ []) (whole Four direction width) ∷
    row (mop 0 ∷ kind 8 ∷ vm 1 ∷ nf 7 ∷ aligned 3 ∷ []) (whole Eight direction width) ∷
    []

-- the bytes of a mask
unfoldable pub mask_rows : Direction → List Row
mask_rows direction = row (mop 0 ∷ kind 0x0b ∷ vm 1 ∷ nf 0 ∷ []) (mask direction) ∷ []

-- the accesses of width 8: those of masks are of this width alone
unfoldable pub byte_rows : Direction → List Row
byte_rows direction = element_rows direction W8 ++ whole_rows direction W8 ++ mask_rows direction

-- the loads of width 16 and 32; there are no stores of whole registers of these widths
unfoldable pub wide_load_rows : Width → List Row
wide_load_rows width = element_rows Direction.Load width ++ whole_rows Direction.Load width

-- opcode 07
unfoldable pub vector_load_groups : List RowGroup
vector_load_groups =
    group (f3 0 ∷ []) (byte_rows Direction.Load) ∷
    group (f3 5 ∷ []) (wide_load_rows W16) ∷
    group (f3 6 ∷ []) (wide_load_rows W32) ∷
    []

-- opcode 27
unfoldable pub vector_store_groups : List RowGroup
vector_store_groups =
    group (f3 0 ∷ []) (byte_rows Direction.Store) ∷
    group (f3 5 ∷ []) (element_rows Direction.Store W16) ∷
    group (f3 6 ∷ []) (element_rows Direction.Store W32) ∷
    []
