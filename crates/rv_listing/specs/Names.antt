-- Mnemonics, as the standard's instruction listings have them.
use Rattle.std.specs.Prelude.{ℕ, List, codes}
use Rattle.rv_decode.specs.declared.instructions.{CarryOp.CarryOp, CarryOutOp.CarryOutOp, ClipOp.ClipOp, CompareOp.CompareOp, Condition.Condition, Count.Count, CsrAction.CsrAction, CsrName.CsrName, FirstOp.FirstOp, FixedOp.FixedOp, FoldOp.FoldOp, ImmediateOp.ImmediateOp, IntOp.IntOp, LoadKind.LoadKind, LogicOp.LogicOp, MultiplyAddOp.MultiplyAddOp, NarrowOp.NarrowOp, RegisterOp.RegisterOp, ShiftOp.ShiftOp, WideOp.WideOp, WidenMultiplyAddOp.WidenMultiplyAddOp, WidenOp.WidenOp, Width.Width}

abbrev pub int_name : IntOp → List ℕ
int_name IntOp.Add = codes "vadd"
int_name IntOp.Sub = codes "vsub"
int_name IntOp.Rsub = codes "vrsub"
int_name IntOp.Minu = codes "vminu"
int_name IntOp.Min = codes "vmin"
int_name IntOp.Maxu = codes "vmaxu"
int_name IntOp.Max = codes "vmax"
int_name IntOp.And = codes "vand"
int_name IntOp.Or = codes "vor"
int_name IntOp.Xor = codes "vxor"
int_name IntOp.Sll = codes "vsll"
int_name IntOp.Srl = codes "vsrl"
int_name IntOp.Sra = codes "vsra"
int_name IntOp.Mul = codes "vmul"
int_name IntOp.Mulh = codes "vmulh"
int_name IntOp.Mulhu = codes "vmulhu"
int_name IntOp.Mulhsu = codes "vmulhsu"
int_name IntOp.Divu = codes "vdivu"
int_name IntOp.Div = codes "vdiv"
int_name IntOp.Remu = codes "vremu"
int_name IntOp.Rem = codes "vrem"

abbrev pub multiply_add_name : MultiplyAddOp → List ℕ
multiply_add_name MultiplyAddOp.Madd = codes "vmadd"
multiply_add_name MultiplyAddOp.Nmsub = codes "vnmsub"
multiply_add_name MultiplyAddOp.Macc = codes "vmacc"
multiply_add_name MultiplyAddOp.Nmsac = codes "vnmsac"

abbrev pub carry_name : CarryOp → List ℕ
carry_name CarryOp.Adc = codes "vadc"
carry_name CarryOp.Sbc = codes "vsbc"

abbrev pub carry_out_name : CarryOutOp → List ℕ
carry_out_name CarryOutOp.Madc = codes "vmadc"
carry_out_name CarryOutOp.Msbc = codes "vmsbc"

abbrev pub compare_name : CompareOp → List ℕ
compare_name CompareOp.Eq = codes "vmseq"
compare_name CompareOp.Ne = codes "vmsne"
compare_name CompareOp.Ltu = codes "vmsltu"
compare_name CompareOp.Lt = codes "vmslt"
compare_name CompareOp.Leu = codes "vmsleu"
compare_name CompareOp.Le = codes "vmsle"
compare_name CompareOp.Gtu = codes "vmsgtu"
compare_name CompareOp.Gt = codes "vmsgt"

abbrev pub fixed_name : FixedOp → List ℕ
fixed_name FixedOp.Saddu = codes "vsaddu"
fixed_name FixedOp.Sadd = codes "vsadd"
fixed_name FixedOp.Ssubu = codes "vssubu"
fixed_name FixedOp.Ssub = codes "vssub"
fixed_name FixedOp.Aaddu = codes "vaaddu"
fixed_name FixedOp.Aadd = codes "vaadd"
fixed_name FixedOp.Asubu = codes "vasubu"
fixed_name FixedOp.Asub = codes "vasub"
fixed_name FixedOp.Smul = codes "vsmul"
fixed_name FixedOp.Ssrl = codes "vssrl"
fixed_name FixedOp.Ssra = codes "vssra"

abbrev pub widen_name : WidenOp → List ℕ
widen_name WidenOp.Addu = codes "vwaddu"
widen_name WidenOp.Add = codes "vwadd"
widen_name WidenOp.Subu = codes "vwsubu"
widen_name WidenOp.Sub = codes "vwsub"
widen_name WidenOp.Mulu = codes "vwmulu"
widen_name WidenOp.Mulsu = codes "vwmulsu"
widen_name WidenOp.Mul = codes "vwmul"

abbrev pub wide_name : WideOp → List ℕ
wide_name WideOp.Addu = codes "vwaddu"
wide_name WideOp.Add = codes "vwadd"
wide_name WideOp.Subu = codes "vwsubu"
wide_name WideOp.Sub = codes "vwsub"

abbrev pub widen_multiply_add_name : WidenMultiplyAddOp → List ℕ
widen_multiply_add_name WidenMultiplyAddOp.Maccu = codes "vwmaccu"
widen_multiply_add_name WidenMultiplyAddOp.Macc = codes "vwmacc"
widen_multiply_add_name WidenMultiplyAddOp.Maccus = codes "vwmaccus"
widen_multiply_add_name WidenMultiplyAddOp.Maccsu = codes "vwmaccsu"

abbrev pub narrow_name : NarrowOp → List ℕ
narrow_name NarrowOp.Srl = codes "vnsrl"
narrow_name NarrowOp.Sra = codes "vnsra"

abbrev pub clip_name : ClipOp → List ℕ
clip_name ClipOp.Clipu = codes "vnclipu"
clip_name ClipOp.Clip = codes "vnclip"

abbrev pub immediate_name : ImmediateOp → List ℕ
immediate_name ImmediateOp.Addi = codes "addi"
immediate_name ImmediateOp.Slti = codes "slti"
immediate_name ImmediateOp.Sltiu = codes "sltiu"
immediate_name ImmediateOp.Xori = codes "xori"
immediate_name ImmediateOp.Ori = codes "ori"
immediate_name ImmediateOp.Andi = codes "andi"

abbrev pub shift_name : ShiftOp → List ℕ
shift_name ShiftOp.Slli = codes "slli"
shift_name ShiftOp.Srli = codes "srli"
shift_name ShiftOp.Srai = codes "srai"

abbrev pub register_name : RegisterOp → List ℕ
register_name RegisterOp.Add = codes "add"
register_name RegisterOp.Sub = codes "sub"
register_name RegisterOp.Sll = codes "sll"
register_name RegisterOp.Slt = codes "slt"
register_name RegisterOp.Sltu = codes "sltu"
register_name RegisterOp.Xor = codes "xor"
register_name RegisterOp.Srl = codes "srl"
register_name RegisterOp.Sra = codes "sra"
register_name RegisterOp.Or = codes "or"
register_name RegisterOp.And = codes "and"
register_name RegisterOp.Mul = codes "mul"
register_name RegisterOp.Mulh = codes "mulh"
register_name RegisterOp.Mulhsu = codes "mulhsu"
register_name RegisterOp.Mulhu = codes "mulhu"
register_name RegisterOp.Div = codes "div"
register_name RegisterOp.Divu = codes "divu"
register_name RegisterOp.Rem = codes "rem"
register_name RegisterOp.Remu = codes "remu"

abbrev pub branch_name : Condition → List ℕ
branch_name Condition.Eq = codes "beq"
branch_name Condition.Ne = codes "bne"
branch_name Condition.Lt = codes "blt"
branch_name Condition.Ge = codes "bge"
branch_name Condition.Ltu = codes "bltu"
branch_name Condition.Geu = codes "bgeu"

abbrev pub load_name : LoadKind → List ℕ
load_name LoadKind.Byte = codes "lb"
load_name LoadKind.Half = codes "lh"
load_name LoadKind.Word = codes "lw"
load_name LoadKind.ByteUnsigned = codes "lbu"
load_name LoadKind.HalfUnsigned = codes "lhu"

abbrev pub store_name : Width → List ℕ
store_name Width.W8 = codes "sb"
store_name Width.W16 = codes "sh"
store_name Width.W32 = codes "sw"

abbrev pub logic_name : LogicOp → List ℕ
logic_name LogicOp.Andn = codes "vmandn"
logic_name LogicOp.And = codes "vmand"
logic_name LogicOp.Or = codes "vmor"
logic_name LogicOp.Xor = codes "vmxor"
logic_name LogicOp.Orn = codes "vmorn"
logic_name LogicOp.Nand = codes "vmnand"
logic_name LogicOp.Nor = codes "vmnor"
logic_name LogicOp.Xnor = codes "vmxnor"

abbrev pub set_first_name : FirstOp → List ℕ
set_first_name FirstOp.Before = codes "vmsbf"
set_first_name FirstOp.Only = codes "vmsof"
set_first_name FirstOp.Including = codes "vmsif"

abbrev pub fold_name : FoldOp → List ℕ
fold_name FoldOp.Sum = codes "vredsum"
fold_name FoldOp.And = codes "vredand"
fold_name FoldOp.Or = codes "vredor"
fold_name FoldOp.Xor = codes "vredxor"
fold_name FoldOp.Minu = codes "vredminu"
fold_name FoldOp.Min = codes "vredmin"
fold_name FoldOp.Maxu = codes "vredmaxu"
fold_name FoldOp.Max = codes "vredmax"

-- csrrw and so on, and with an i where the source is an immediate
abbrev pub csr_name : CsrAction → List ℕ
csr_name CsrAction.Write = codes "csrrw"
csr_name CsrAction.Set = codes "csrrs"
csr_name CsrAction.Clear = codes "csrrc"

-- a CSR's number ("Vector Extension CSRs")
abbrev pub csr_digits : CsrName → List ℕ
csr_digits CsrName.Vxsat = codes "009"
csr_digits CsrName.Vxrm = codes "00a"
csr_digits CsrName.Vcsr = codes "00f"
csr_digits CsrName.Vl = codes "c20"
csr_digits CsrName.Vtype = codes "c21"
csr_digits CsrName.Vlenb = codes "c22"

-- the whole-register loads, before the width; stores and moves have no width
abbrev pub whole_load_name : Count → List ℕ
whole_load_name Count.One = codes "vl1re"
whole_load_name Count.Two = codes "vl2re"
whole_load_name Count.Four = codes "vl4re"
whole_load_name Count.Eight = codes "vl8re"

abbrev pub whole_store_name : Count → List ℕ
whole_store_name Count.One = codes "vs1r"
whole_store_name Count.Two = codes "vs2r"
whole_store_name Count.Four = codes "vs4r"
whole_store_name Count.Eight = codes "vs8r"

abbrev pub whole_move_name : Count → List ℕ
whole_move_name Count.One = codes "vmv1r"
whole_move_name Count.Two = codes "vmv2r"
whole_move_name Count.Four = codes "vmv4r"
whole_move_name Count.Eight = codes "vmv8r"

-- what follows the name of a load or store whose elements have a width: vle8.v, say
abbrev pub width_form : Width → List ℕ
width_form Width.W8 = codes "8.v"
width_form Width.W16 = codes "16.v"
width_form Width.W32 = codes "32.v"
