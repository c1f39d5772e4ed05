-- The words of the instructions on masks, of permutations, reductions and moves, as "Vector
-- Instruction Formats" lays them out, with the codes of the "V" extension's "Vector
-- Instruction Listing".
use Rattle.std.specs.Prelude.{ℕ, ◌<◌, Bool, false, true, pos}
use Rattle.rv_decode.specs.Encode.{IsRegister}
use Rattle.rv_decode.specs.Operations.{VXU, XU, only_v, only_x, only_i}
use Rattle.rv_decode.specs.EncodeVector.{OPI, OPM, Code, code, vm_of, encode_v, OperandFits}
use Rattle.rv_decode.specs.EncodeAccess.{nf_of_count}
use Rattle.rv_decode.specs.Words.{FirstOp, FoldOp, LogicOp, Offset, Source, VMask, VMove, VPerm, VReduce, Logic, First, SetFirst, Iota}
use Rattle.rv_decode.specs.Words.{Index, Before, Only, Including, SlideUp, SlideDown, SlideOneUp, SlideOneDown, Gather, Gather16, Compress}
use Rattle.rv_decode.specs.Words.{Fold, WidenSum, ToScalar, FromScalar}

abbrev pub code_of_logic : LogicOp → Code
code_of_logic LogicOp.Andn = code OPM 0x18 only_v
code_of_logic LogicOp.And = code OPM 0x19 only_v
code_of_logic LogicOp.Or = code OPM 0x1a only_v
code_of_logic LogicOp.Xor = code OPM 0x1b only_v
code_of_logic LogicOp.Orn = code OPM 0x1c only_v
code_of_logic LogicOp.Nand = code OPM 0x1d only_v
code_of_logic LogicOp.Nor = code OPM 0x1e only_v
code_of_logic LogicOp.Xnor = code OPM 0x1f only_v

-- VWXUNARY0: vmv.x.s, vcpop and vfirst, by what stands in the place of vs1; VRXUNARY0: vmv.s.x
abbrev pub code_of_to_scalar : Code
code_of_to_scalar = code OPM 0x10 only_v

abbrev pub code_of_from_scalar : Code
code_of_from_scalar = code OPM 0x10 only_x

-- VMUNARY0: vmsbf, vmsof, vmsif, viota and vid, by what stands in the place of vs1
abbrev pub code_of_set_mask : Code
code_of_set_mask = code OPM 0x14 only_v

abbrev pub selector_of_first : FirstOp → ℕ
selector_of_first Before = 1
selector_of_first Only = 2
selector_of_first Including = 3

unfoldable pub encode_mask : VMask → ℕ
encode_mask (Logic op vd vs2 vs1) = encode_v (code_of_logic op) vd 1 vs2 (Source.Vector vs1)
encode_mask (VMask.Count rd vs2 masked) =
    encode_v code_of_to_scalar rd (vm_of masked) vs2 (Source.Vector 0x10)
encode_mask (First rd vs2 masked) =
    encode_v code_of_to_scalar rd (vm_of masked) vs2 (Source.Vector 0x11)
encode_mask (SetFirst op vd vs2 masked) =
    encode_v code_of_set_mask vd (vm_of masked) vs2 (Source.Vector (selector_of_first op))
encode_mask (Iota vd vs2 masked) =
    encode_v code_of_set_mask vd (vm_of masked) vs2 (Source.Vector 0x10)
encode_mask (Index vd masked) = encode_v code_of_set_mask vd (vm_of masked) 0 (Source.Vector 0x11)

abbrev pub MaskFits : VMask → Type 0
MaskFits (Logic op vd vs2 vs1) = IsRegister vd × IsRegister vs2 × IsRegister vs1
MaskFits (VMask.Count rd vs2 masked) = IsRegister rd × IsRegister vs2
MaskFits (First rd vs2 masked) = IsRegister rd × IsRegister vs2
MaskFits (SetFirst op vd vs2 masked) = IsRegister vd × IsRegister vs2
MaskFits (Iota vd vs2 masked) = IsRegister vd × IsRegister vs2
MaskFits (Index vd masked) = IsRegister vd

abbrev pub code_of_slide_up : Code
code_of_slide_up = code OPI 0x0e XU

abbrev pub code_of_slide_down : Code
code_of_slide_down = code OPI 0x0f XU

abbrev pub code_of_slide_one_up : Code
code_of_slide_one_up = code OPM 0x0e only_x

abbrev pub code_of_slide_one_down : Code
code_of_slide_one_down = code OPM 0x0f only_x

abbrev pub code_of_gather : Code
code_of_gather = code OPI 0x0c VXU

abbrev pub code_of_gather16 : Code
code_of_gather16 = code OPI 0x0e only_v

abbrev pub code_of_compress : Code
code_of_compress = code OPM 0x17 only_v

-- the offset of a slide stands where second operands do
abbrev pub source_of : Offset → Source
source_of (Offset.Scalar rs1) = Source.Scalar rs1
source_of (Offset.Immediate n) = Source.Immediate (pos n)

abbrev pub OffsetFits : Offset → Type 0
OffsetFits (Offset.Scalar rs1) = IsRegister rs1
OffsetFits (Offset.Immediate n) = n < 32

unfoldable pub encode_perm : VPerm → ℕ
encode_perm (SlideUp vd vs2 by masked) =
    encode_v code_of_slide_up vd (vm_of masked) vs2 (source_of by)
encode_perm (SlideDown vd vs2 by masked) =
    encode_v code_of_slide_down vd (vm_of masked) vs2 (source_of by)
encode_perm (SlideOneUp vd vs2 rs1 masked) =
    encode_v code_of_slide_one_up vd (vm_of masked) vs2 (Source.Scalar rs1)
encode_perm (SlideOneDown vd vs2 rs1 masked) =
    encode_v code_of_slide_one_down vd (vm_of masked) vs2 (Source.Scalar rs1)
encode_perm (Gather vd vs2 b masked) = encode_v code_of_gather vd (vm_of masked) vs2 b
encode_perm (Gather16 vd vs2 vs1 masked) =
    encode_v code_of_gather16 vd (vm_of masked) vs2 (Source.Vector vs1)
encode_perm (Compress vd vs2 vs1) = encode_v code_of_compress vd 1 vs2 (Source.Vector vs1)

abbrev pub PermFits : VPerm → Type 0
PermFits (SlideUp vd vs2 by masked) = IsRegister vd × IsRegister vs2 × OffsetFits by
PermFits (SlideDown vd vs2 by masked) = IsRegister vd × IsRegister vs2 × OffsetFits by
PermFits (SlideOneUp vd vs2 rs1 masked) = IsRegister vd × IsRegister vs2 × IsRegister rs1
PermFits (SlideOneDown vd vs2 rs1 masked) = IsRegister vd × IsRegister vs2 × IsRegister rs1
PermFits (Gather vd vs2 b masked) =
    IsRegister vd × IsRegister vs2 × OperandFits code_of_gather.forms b
PermFits (Gather16 vd vs2 vs1 masked) = IsRegister vd × IsRegister vs2 × IsRegister vs1
PermFits (Compress vd vs2 vs1) = IsRegister vd × IsRegister vs2 × IsRegister vs1

abbrev pub code_of_fold : FoldOp → Code
code_of_fold FoldOp.Sum = code OPM 0x00 only_v
code_of_fold FoldOp.And = code OPM 0x01 only_v
code_of_fold FoldOp.Or = code OPM 0x02 only_v
code_of_fold FoldOp.Xor = code OPM 0x03 only_v
code_of_fold FoldOp.Minu = code OPM 0x04 only_v
code_of_fold FoldOp.Min = code OPM 0x05 only_v
code_of_fold FoldOp.Maxu = code OPM 0x06 only_v
code_of_fold FoldOp.Max = code OPM 0x07 only_v

abbrev pub code_of_widen_sum : Bool → Code
code_of_widen_sum false = code OPI 0x30 only_v
code_of_widen_sum true = code OPI 0x31 only_v

unfoldable pub encode_reduce : VReduce → ℕ
encode_reduce (Fold op vd vs2 vs1 masked) =
    encode_v (code_of_fold op) vd (vm_of masked) vs2 (Source.Vector vs1)
encode_reduce (WidenSum signed vd vs2 vs1 masked) =
    encode_v (code_of_widen_sum signed) vd (vm_of masked) vs2 (Source.Vector vs1)

abbrev pub ReduceFits : VReduce → Type 0
ReduceFits (Fold op vd vs2 vs1 masked) = IsRegister vd × IsRegister vs2 × IsRegister vs1
ReduceFits (WidenSum signed vd vs2 vs1 masked) = IsRegister vd × IsRegister vs2 × IsRegister vs1

-- vmv1r to vmv8r: one less than the number of registers in the place of the immediate
abbrev pub code_of_whole_move : Code
code_of_whole_move = code OPI 0x27 only_i

unfoldable pub encode_move : VMove → ℕ
encode_move (ToScalar rd vs2) = encode_v code_of_to_scalar rd 1 vs2 (Source.Vector 0)
encode_move (FromScalar vd rs1) = encode_v code_of_from_scalar vd 1 0 (Source.Scalar rs1)
encode_move (VMove.Whole count vd vs2) =
    encode_v code_of_whole_move vd 1 vs2 (Source.Immediate (pos (nf_of_count count)))

abbrev pub MoveFits : VMove → Type 0
MoveFits (ToScalar rd vs2) = IsRegister rd × IsRegister vs2
MoveFits (FromScalar vd rs1) = IsRegister vd × IsRegister rs1
MoveFits (VMove.Whole count vd vs2) = IsRegister vd × IsRegister vs2
