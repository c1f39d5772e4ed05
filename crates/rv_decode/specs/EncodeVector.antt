-- The word of a vector instruction, as "Vector Instruction Formats" lays it out, with the codes of
-- the "V" extension's "Vector Instruction Listing".
use Rattle.std.specs.Prelude.{◌≡◌, ◌⊎◌, ℕ, ◌+◌, ◌*◌, ◌^◌, ◌<◌, pos, ◌≤ℤ◌, Bool, true, false, List}
use Rattle.std.specs.List.{list_any}
use Rattle.rv_decode.specs.Encode.{modulo, low_fields, encode_r, IsRegister, IsSigned}
use Rattle.rv_decode.specs.Operations.{Form, V, X, I, U, VXI, VXU, VX, XI, only_v, only_x, vectors, scalars}
use Rattle.rv_decode.specs.Words.{CarryOp, CarryOutOp, ClipOp, CompareOp, FixedOp, Fraction, IntOp, MultiplyAddOp, NarrowOp, Source, VArith}
use Rattle.rv_decode.specs.Words.{VSet, WideOp, WidenMultiplyAddOp, WidenOp, Vsetvli, Vsetivli, Vsetvl, Int, MultiplyAdd, Carry, CarryOut}
use Rattle.rv_decode.specs.Words.{Merge, Copy, Compare, Fixed, Widen, Wide, WidenMultiplyAdd, Narrow, Clip, Extend, Madd, Nmsub, Macc}
use Rattle.rv_decode.specs.Words.{Nmsac, Adc, Sbc, Madc, Msbc, Maccu, Maccus, Maccsu}
use Rattle.rv_decode.specs.declared.instructions.IntOp.TheVariants.{Add, Sub, Rsub, Minu, Min, Maxu, Max, And, Or, Xor, Sll, Srl, Sra, Mul, Mulh, Mulhu, Mulhsu, Divu, Div, Remu, Rem}
use Rattle.rv_decode.specs.declared.instructions.CompareOp.TheVariants.{Eq, Ne, Ltu, Lt, Leu, Le, Gtu, Gt}

-- OPIVV, OPIVX and OPIVI, or OPMVV and OPMVX
pub data Category : Type 0 where
  OPI : Category
  OPM : Category

-- an operation's category, its funct6, and the second operands that it has words for
pub record Code : Type 0 where
  pub category : Category
  pub funct6 : ℕ
  pub forms : List Form

abbrev pub code : Category → ℕ → List Form → Code
code category funct6 forms = record { category = category; funct6 = funct6; forms = forms }

abbrev pub code_of_int : IntOp → Code
code_of_int Add = code OPI 0x00 VXI
code_of_int Sub = code OPI 0x02 VX
code_of_int Rsub = code OPI 0x03 XI
code_of_int Minu = code OPI 0x04 VX
code_of_int Min = code OPI 0x05 VX
code_of_int Maxu = code OPI 0x06 VX
code_of_int Max = code OPI 0x07 VX
code_of_int And = code OPI 0x09 VXI
code_of_int Or = code OPI 0x0a VXI
code_of_int Xor = code OPI 0x0b VXI
code_of_int Sll = code OPI 0x25 VXU
code_of_int Srl = code OPI 0x28 VXU
code_of_int Sra = code OPI 0x29 VXU
code_of_int Divu = code OPM 0x20 VX
code_of_int Div = code OPM 0x21 VX
code_of_int Remu = code OPM 0x22 VX
code_of_int Rem = code OPM 0x23 VX
code_of_int Mulhu = code OPM 0x24 VX
code_of_int Mul = code OPM 0x25 VX
code_of_int Mulhsu = code OPM 0x26 VX
code_of_int Mulh = code OPM 0x27 VX

abbrev pub code_of_multiply_add : MultiplyAddOp → Code
code_of_multiply_add Madd = code OPM 0x29 VX
code_of_multiply_add Nmsub = code OPM 0x2b VX
code_of_multiply_add Macc = code OPM 0x2d VX
code_of_multiply_add Nmsac = code OPM 0x2f VX

abbrev pub code_of_carry : CarryOp → Code
code_of_carry Adc = code OPI 0x10 VXI
code_of_carry Sbc = code OPI 0x12 VX

abbrev pub code_of_carry_out : CarryOutOp → Code
code_of_carry_out Madc = code OPI 0x11 VXI
code_of_carry_out Msbc = code OPI 0x13 VX

-- vmerge, and vmv.v with vm 1 and vs2 0
abbrev pub code_of_merge : Code
code_of_merge = code OPI 0x17 VXI

abbrev pub code_of_compare : CompareOp → Code
code_of_compare Eq = code OPI 0x18 VXI
code_of_compare Ne = code OPI 0x19 VXI
code_of_compare Ltu = code OPI 0x1a VX
code_of_compare Lt = code OPI 0x1b VX
code_of_compare Leu = code OPI 0x1c VXI
code_of_compare Le = code OPI 0x1d VXI
code_of_compare Gtu = code OPI 0x1e XI
code_of_compare Gt = code OPI 0x1f XI

abbrev pub code_of_fixed : FixedOp → Code
code_of_fixed FixedOp.Saddu = code OPI 0x20 VXI
code_of_fixed FixedOp.Sadd = code OPI 0x21 VXI
code_of_fixed FixedOp.Ssubu = code OPI 0x22 VX
code_of_fixed FixedOp.Ssub = code OPI 0x23 VX
code_of_fixed FixedOp.Smul = code OPI 0x27 VX
code_of_fixed FixedOp.Ssrl = code OPI 0x2a VXU
code_of_fixed FixedOp.Ssra = code OPI 0x2b VXU
code_of_fixed FixedOp.Aaddu = code OPM 0x08 VX
code_of_fixed FixedOp.Aadd = code OPM 0x09 VX
code_of_fixed FixedOp.Asubu = code OPM 0x0a VX
code_of_fixed FixedOp.Asub = code OPM 0x0b VX

abbrev pub code_of_widen : WidenOp → Code
code_of_widen WidenOp.Addu = code OPM 0x30 VX
code_of_widen WidenOp.Add = code OPM 0x31 VX
code_of_widen WidenOp.Subu = code OPM 0x32 VX
code_of_widen WidenOp.Sub = code OPM 0x33 VX
code_of_widen WidenOp.Mulu = code OPM 0x38 VX
code_of_widen WidenOp.Mulsu = code OPM 0x3a VX
code_of_widen WidenOp.Mul = code OPM 0x3b VX

abbrev pub code_of_wide : WideOp → Code
code_of_wide WideOp.Addu = code OPM 0x34 VX
code_of_wide WideOp.Add = code OPM 0x35 VX
code_of_wide WideOp.Subu = code OPM 0x36 VX
code_of_wide WideOp.Sub = code OPM 0x37 VX

abbrev pub code_of_widen_multiply_add : WidenMultiplyAddOp → Code
code_of_widen_multiply_add Maccu = code OPM 0x3c VX
code_of_widen_multiply_add WidenMultiplyAddOp.Macc = code OPM 0x3d VX
code_of_widen_multiply_add Maccus = code OPM 0x3e only_x
code_of_widen_multiply_add Maccsu = code OPM 0x3f VX

abbrev pub code_of_narrow : NarrowOp → Code
code_of_narrow NarrowOp.Srl = code OPI 0x2c VXU
code_of_narrow NarrowOp.Sra = code OPI 0x2d VXU

abbrev pub code_of_clip : ClipOp → Code
code_of_clip ClipOp.Clipu = code OPI 0x2e VXU
code_of_clip ClipOp.Clip = code OPI 0x2f VXU

-- vzext and vsext, and what stands in the place of vs1
abbrev pub code_of_extend : Code
code_of_extend = code OPM 0x12 only_v

abbrev pub selector_of_extend : Bool → Fraction → ℕ
selector_of_extend false Fraction.Quarter = 4
selector_of_extend true Fraction.Quarter = 5
selector_of_extend false Fraction.Half = 6
selector_of_extend true Fraction.Half = 7

-- f3, by the category and the second operand
abbrev pub f3_of : Category → Source → ℕ
f3_of OPI (Source.Vector vs1) = 0
f3_of OPM (Source.Vector vs1) = 2
f3_of OPI (Source.Immediate imm) = 3
f3_of OPM (Source.Immediate imm) = 3
f3_of OPI (Source.Scalar rs1) = 4
f3_of OPM (Source.Scalar rs1) = 6

-- what stands in bits 19:15
abbrev pub number_of_operand : Source → ℕ
number_of_operand (Source.Vector vs1) = vs1
number_of_operand (Source.Scalar rs1) = rs1
number_of_operand (Source.Immediate imm) = modulo 32 imm

-- vm, by whether the mask governs
abbrev pub vm_of : Bool → ℕ
vm_of false = 1
vm_of true = 0

unfoldable pub encode_v : Code → ℕ → ℕ → ℕ → Source → ℕ
encode_v c vd vm vs2 b =
    c.funct6 * 2 ^ 26 + vm * 2 ^ 25 + vs2 * 2 ^ 20
    + low_fields 0x57 vd (f3_of c.category b) (number_of_operand b)

unfoldable pub encode_arith : VArith → ℕ
encode_arith (Int op vd vs2 b masked) = encode_v (code_of_int op) vd (vm_of masked) vs2 b
encode_arith (MultiplyAdd op vd vs2 b masked) =
    encode_v (code_of_multiply_add op) vd (vm_of masked) vs2 b
encode_arith (Carry op vd vs2 b) = encode_v (code_of_carry op) vd 0 vs2 b
encode_arith (CarryOut op vd vs2 b with_carry) =
    encode_v (code_of_carry_out op) vd (vm_of with_carry) vs2 b
encode_arith (Merge vd vs2 b) = encode_v code_of_merge vd 0 vs2 b
encode_arith (Copy vd b) = encode_v code_of_merge vd 1 0 b
encode_arith (Compare op vd vs2 b masked) = encode_v (code_of_compare op) vd (vm_of masked) vs2 b
encode_arith (Fixed op vd vs2 b masked) = encode_v (code_of_fixed op) vd (vm_of masked) vs2 b
encode_arith (Widen op vd vs2 b masked) = encode_v (code_of_widen op) vd (vm_of masked) vs2 b
encode_arith (Wide op vd vs2 b masked) = encode_v (code_of_wide op) vd (vm_of masked) vs2 b
encode_arith (WidenMultiplyAdd op vd vs2 b masked) =
    encode_v (code_of_widen_multiply_add op) vd (vm_of masked) vs2 b
encode_arith (Narrow op vd vs2 b masked) = encode_v (code_of_narrow op) vd (vm_of masked) vs2 b
encode_arith (Clip op vd vs2 b masked) = encode_v (code_of_clip op) vd (vm_of masked) vs2 b
encode_arith (Extend signed of vd vs2 masked) =
    encode_v code_of_extend vd (vm_of masked) vs2 (Source.Vector (selector_of_extend signed of))

unfoldable pub encode_vset : VSet → ℕ
encode_vset (Vsetvli rd rs1 vtype) = vtype * 2 ^ 20 + low_fields 0x57 rd 7 rs1
encode_vset (Vsetivli rd avl vtype) = 3 * 2 ^ 30 + vtype * 2 ^ 20 + low_fields 0x57 rd 7 avl
encode_vset (Vsetvl rd rs1 rs2) = encode_r 0x57 rd 7 rs1 rs2 0x40

-- fields in range, and second operands that the operation has words for

abbrev pub takes_signed : Form → Bool
takes_signed V = false
takes_signed X = false
takes_signed I = true
takes_signed U = false

abbrev pub takes_unsigned : Form → Bool
takes_unsigned V = false
takes_unsigned X = false
takes_unsigned I = false
takes_unsigned U = true

abbrev pub OperandFits : List Form → Source → Type 0
OperandFits forms (Source.Vector vs1) = (list_any vectors forms ≡ true) × IsRegister vs1
OperandFits forms (Source.Scalar rs1) = (list_any scalars forms ≡ true) × IsRegister rs1
OperandFits forms (Source.Immediate imm) =
    ((list_any takes_signed forms ≡ true) × IsSigned 16 imm) ⊎
    ((list_any takes_unsigned forms ≡ true) × (pos 0 ≤ℤ imm) × (imm ≤ℤ pos 31))

abbrev pub ArithFits : VArith → Type 0
ArithFits (Int op vd vs2 b masked) =
    IsRegister vd × IsRegister vs2 × OperandFits (code_of_int op).forms b
ArithFits (MultiplyAdd op vd vs2 b masked) =
    IsRegister vd × IsRegister vs2 × OperandFits (code_of_multiply_add op).forms b
ArithFits (Carry op vd vs2 b) =
    IsRegister vd × IsRegister vs2 × OperandFits (code_of_carry op).forms b
ArithFits (CarryOut op vd vs2 b with_carry) =
    IsRegister vd × IsRegister vs2 × OperandFits (code_of_carry_out op).forms b
ArithFits (Merge vd vs2 b) = IsRegister vd × IsRegister vs2 × OperandFits code_of_merge.forms b
ArithFits (Copy vd b) = IsRegister vd × OperandFits code_of_merge.forms b
ArithFits (Compare op vd vs2 b masked) =
    IsRegister vd × IsRegister vs2 × OperandFits (code_of_compare op).forms b
ArithFits (Fixed op vd vs2 b masked) =
    IsRegister vd × IsRegister vs2 × OperandFits (code_of_fixed op).forms b
ArithFits (Widen op vd vs2 b masked) =
    IsRegister vd × IsRegister vs2 × OperandFits (code_of_widen op).forms b
ArithFits (Wide op vd vs2 b masked) =
    IsRegister vd × IsRegister vs2 × OperandFits (code_of_wide op).forms b
ArithFits (WidenMultiplyAdd op vd vs2 b masked) =
    IsRegister vd × IsRegister vs2 × OperandFits (code_of_widen_multiply_add op).forms b
ArithFits (Narrow op vd vs2 b masked) =
    IsRegister vd × IsRegister vs2 × OperandFits (code_of_narrow op).forms b
ArithFits (Clip op vd vs2 b masked) =
    IsRegister vd × IsRegister vs2 × OperandFits (code_of_clip op).forms b
ArithFits (Extend signed of vd vs2 masked) = IsRegister vd × IsRegister vs2

abbrev pub VSetFits : VSet → Type 0
VSetFits (Vsetvli rd rs1 vtype) = IsRegister rd × IsRegister rs1 × (vtype < 2 ^ 11)
VSetFits (Vsetivli rd avl vtype) = IsRegister rd × (avl < 32) × (vtype < 2 ^ 10)
VSetFits (Vsetvl rd rs1 rs2) = IsRegister rd × IsRegister rs1 × IsRegister rs2
