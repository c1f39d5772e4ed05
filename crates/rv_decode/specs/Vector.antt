-- The rows of opcode 57: vector arithmetic, the operations of ElementWords.antt, and the forms that
-- set vl and vtype.
use Rattle.std.specs.Prelude.{ℕ, Bool, true, false, List, [], ◌∷◌, ◌++◌}
use Rattle.rv_decode.specs.Bits.{bits, rd_of, rs1_of, rs2_of}
use Rattle.rv_decode.specs.Rows.{Row, RowGroup, f3, field, row, group}
use Rattle.rv_decode.specs.Operations.{V, VXI, VXU, VX, XI, only_x, Operation, operation, operation_where, select, rows_of, vectors, scalars, immediates, vm, vs1, vs2, is_masked}
use Rattle.rv_decode.specs.ElementWords.{low_opi_elements, high_opi_elements, opm_elements}
use Rattle.rv_decode.specs.Words.{CarryOp, CarryOutOp, ClipOp, CompareOp, FixedOp, Fraction, Insn, IntOp, MultiplyAddOp, NarrowOp, Source}
use Rattle.rv_decode.specs.Words.{WideOp, WidenMultiplyAddOp, WidenOp, Vsetvli, Vsetivli, Vsetvl, Int, MultiplyAdd, Carry, CarryOut, Merge}
use Rattle.rv_decode.specs.Words.{Copy, Compare, Fixed, Widen, Wide, WidenMultiplyAdd, Narrow, Clip, Extend, Madd, Nmsub, Macc, Nmsac, Adc}
use Rattle.rv_decode.specs.Words.{Sbc, Madc, Msbc, Saddu, Sadd, Ssubu, Ssub, Aaddu, Aadd, Asubu, Asub, Smul, Ssrl, Ssra, Maccu, Maccus}
use Rattle.rv_decode.specs.Words.{Maccsu}
use Rattle.rv_decode.specs.declared.instructions.IntOp.TheVariants.{Add, Sub, Rsub, Minu, Min, Maxu, Max, And, Or, Xor, Sll, Srl, Sra, Mul, Mulh, Mulhu, Mulhsu, Divu, Div, Remu, Rem}
use Rattle.rv_decode.specs.declared.instructions.CompareOp.TheVariants.{Eq, Ne, Ltu, Lt, Leu, Le, Gtu, Gt}

-- what the operations of a shape mean

abbrev pub int : IntOp → Source → ℕ → Insn
int op b word = Insn.VArith (Int op (rd_of word) (rs2_of word) b (is_masked word))

abbrev pub multiply_add : MultiplyAddOp → Source → ℕ → Insn
multiply_add op b word = Insn.VArith (MultiplyAdd op (rd_of word) (rs2_of word) b (is_masked word))

abbrev pub carry : CarryOp → Source → ℕ → Insn
carry op b word = Insn.VArith (Carry op (rd_of word) (rs2_of word) b)

-- a carry is read where vm is 0
abbrev pub carry_out : CarryOutOp → Source → ℕ → Insn
carry_out op b word = Insn.VArith (CarryOut op (rd_of word) (rs2_of word) b (is_masked word))

abbrev pub merge : Source → ℕ → Insn
merge b word = Insn.VArith (Merge (rd_of word) (rs2_of word) b)

abbrev pub copy : Source → ℕ → Insn
copy b word = Insn.VArith (Copy (rd_of word) b)

abbrev pub compare : CompareOp → Source → ℕ → Insn
compare op b word = Insn.VArith (Compare op (rd_of word) (rs2_of word) b (is_masked word))

abbrev pub fixed : FixedOp → Source → ℕ → Insn
fixed op b word = Insn.VArith (Fixed op (rd_of word) (rs2_of word) b (is_masked word))

abbrev pub widen : WidenOp → Source → ℕ → Insn
widen op b word = Insn.VArith (Widen op (rd_of word) (rs2_of word) b (is_masked word))

abbrev pub wide : WideOp → Source → ℕ → Insn
wide op b word = Insn.VArith (Wide op (rd_of word) (rs2_of word) b (is_masked word))

abbrev pub widen_multiply_add : WidenMultiplyAddOp → Source → ℕ → Insn
widen_multiply_add op b word =
    Insn.VArith (WidenMultiplyAdd op (rd_of word) (rs2_of word) b (is_masked word))

abbrev pub narrow : NarrowOp → Source → ℕ → Insn
narrow op b word = Insn.VArith (Narrow op (rd_of word) (rs2_of word) b (is_masked word))

abbrev pub clip : ClipOp → Source → ℕ → Insn
clip op b word = Insn.VArith (Clip op (rd_of word) (rs2_of word) b (is_masked word))

abbrev pub extend : Bool → Fraction → ℕ → Insn
extend signed of word = Insn.VArith (Extend signed of (rd_of word) (rs2_of word) (is_masked word))

-- VXUNARY0: vzext and vsext, by what stands in the place of vs1
unfoldable pub extend_rows : List Row
extend_rows =
    row (vs1 4 ∷ []) (extend false Fraction.Quarter) ∷
    row (vs1 5 ∷ []) (extend true Fraction.Quarter) ∷
    row (vs1 6 ∷ []) (extend false Fraction.Half) ∷
    row (vs1 7 ∷ []) (extend true Fraction.Half) ∷
    []

-- OPI, funct6 below 0x20: sums, minima and maxima, logic, carries, comparisons
abbrev pub integer_operations : List Operation
integer_operations =
    operation 0x00 VXI (int Add) ∷
    operation 0x02 VX (int Sub) ∷
    operation 0x03 XI (int Rsub) ∷
    operation 0x04 VX (int Minu) ∷
    operation 0x05 VX (int Min) ∷
    operation 0x06 VX (int Maxu) ∷
    operation 0x07 VX (int Max) ∷
    operation 0x09 VXI (int And) ∷
    operation 0x0a VXI (int Or) ∷
    operation 0x0b VXI (int Xor) ∷
    operation_where 0x10 VXI (vm 0 ∷ []) (carry Adc) ∷
    operation 0x11 VXI (carry_out Madc) ∷
    operation_where 0x12 VX (vm 0 ∷ []) (carry Sbc) ∷
    operation 0x13 VX (carry_out Msbc) ∷
    operation_where 0x17 VXI (vm 0 ∷ []) merge ∷
    operation_where 0x17 VXI (vm 1 ∷ vs2 0 ∷ []) copy ∷
    operation 0x18 VXI (compare Eq) ∷
    operation 0x19 VXI (compare Ne) ∷
    operation 0x1a VX (compare Ltu) ∷
    operation 0x1b VX (compare Lt) ∷
    operation 0x1c VXI (compare Leu) ∷
    operation 0x1d VXI (compare Le) ∷
    operation 0x1e XI (compare Gtu) ∷
    operation 0x1f XI (compare Gt) ∷
    []

-- OPI, funct6 from 0x20 on: saturating sums, shifts, the rounded product, narrowing
abbrev pub shift_operations : List Operation
shift_operations =
    operation 0x20 VXI (fixed Saddu) ∷
    operation 0x21 VXI (fixed Sadd) ∷
    operation 0x22 VX (fixed Ssubu) ∷
    operation 0x23 VX (fixed Ssub) ∷
    operation 0x25 VXU (int Sll) ∷
    operation 0x27 VX (fixed Smul) ∷
    operation 0x28 VXU (int Srl) ∷
    operation 0x29 VXU (int Sra) ∷
    operation 0x2a VXU (fixed Ssrl) ∷
    operation 0x2b VXU (fixed Ssra) ∷
    operation 0x2c VXU (narrow NarrowOp.Srl) ∷
    operation 0x2d VXU (narrow NarrowOp.Sra) ∷
    operation 0x2e VXU (clip ClipOp.Clipu) ∷
    operation 0x2f VXU (clip ClipOp.Clip) ∷
    []

-- OPM, funct6 below 0x20: averages
abbrev pub averaging_operations : List Operation
averaging_operations =
    operation 0x08 VX (fixed Aaddu) ∷
    operation 0x09 VX (fixed Aadd) ∷
    operation 0x0a VX (fixed Asubu) ∷
    operation 0x0b VX (fixed Asub) ∷
    []

-- OPM, funct6 0x20 to 0x2f: quotients and products
abbrev pub multiply_operations : List Operation
multiply_operations =
    operation 0x20 VX (int Divu) ∷
    operation 0x21 VX (int Div) ∷
    operation 0x22 VX (int Remu) ∷
    operation 0x23 VX (int Rem) ∷
    operation 0x24 VX (int Mulhu) ∷
    operation 0x25 VX (int Mul) ∷
    operation 0x26 VX (int Mulhsu) ∷
    operation 0x27 VX (int Mulh) ∷
    operation 0x29 VX (multiply_add Madd) ∷
    operation 0x2b VX (multiply_add Nmsub) ∷
    operation 0x2d VX (multiply_add Macc) ∷
    operation 0x2f VX (multiply_add Nmsac) ∷
    []

-- OPM, funct6 from 0x30 on: results of twice the width
abbrev pub widening_operations : List Operation
widening_operations =
    operation 0x30 VX (widen WidenOp.Addu) ∷
    operation 0x31 VX (widen WidenOp.Add) ∷
    operation 0x32 VX (widen WidenOp.Subu) ∷
    operation 0x33 VX (widen WidenOp.Sub) ∷
    operation 0x34 VX (wide WideOp.Addu) ∷
    operation 0x35 VX (wide WideOp.Add) ∷
    operation 0x36 VX (wide WideOp.Subu) ∷
    operation 0x37 VX (wide WideOp.Sub) ∷
    operation 0x38 VX (widen WidenOp.Mulu) ∷
    operation 0x3a VX (widen WidenOp.Mulsu) ∷
    operation 0x3b VX (widen WidenOp.Mul) ∷
    operation 0x3c VX (widen_multiply_add Maccu) ∷
    operation 0x3d VX (widen_multiply_add WidenMultiplyAddOp.Macc) ∷
    operation 0x3e only_x (widen_multiply_add Maccus) ∷
    operation 0x3f VX (widen_multiply_add Maccsu) ∷
    []

-- the operations of OPIVV, OPIVX and OPIVI: those with a funct6 below 0x20, and the others
unfoldable pub low_opi : List Operation
low_opi = integer_operations ++ low_opi_elements

unfoldable pub high_opi : List Operation
high_opi = shift_operations ++ high_opi_elements

unfoldable pub opi : List Operation
opi = low_opi ++ high_opi

-- the operations of OPMVV and OPMVX, in the same way
unfoldable pub low_opm : List Operation
low_opm = averaging_operations ++ select 0x12 V extend_rows ++ opm_elements

unfoldable pub high_opm : List Operation
high_opm = multiply_operations ++ widening_operations

unfoldable pub opm : List Operation
opm = low_opm ++ high_opm

-- the forms that set vl and vtype
abbrev pub vsetvli : ℕ → Insn
vsetvli word = Insn.VSet (Vsetvli (rd_of word) (rs1_of word) (bits 20 11 word))

abbrev pub vsetivli : ℕ → Insn
vsetivli word = Insn.VSet (Vsetivli (rd_of word) (bits 15 5 word) (bits 20 10 word))

abbrev pub vsetvl : ℕ → Insn
vsetvl word = Insn.VSet (Vsetvl (rd_of word) (rs1_of word) (rs2_of word))

unfoldable pub vset_rows : List Row
vset_rows =
    row (field 31 1 0 ∷ []) vsetvli ∷
    row (field 31 1 1 ∷ field 30 1 1 ∷ []) vsetivli ∷
    row (field 31 1 1 ∷ field 30 1 0 ∷ field 25 5 0 ∷ []) vsetvl ∷
    []

-- opcode 57
unfoldable pub vector_groups : List RowGroup
vector_groups =
    group (f3 0 ∷ []) (rows_of vectors opi) ∷
    group (f3 2 ∷ []) (rows_of vectors opm) ∷
    group (f3 3 ∷ []) (rows_of immediates opi) ∷
    group (f3 4 ∷ []) (rows_of scalars opi) ∷
    group (f3 6 ∷ []) (rows_of scalars opm) ∷
    group (f3 7 ∷ []) vset_rows ∷
    []
