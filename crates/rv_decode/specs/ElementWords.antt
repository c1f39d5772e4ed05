-- The operations of opcode 57 on masks, on the places of elements, on all elements together, and on
-- single elements and whole registers ("Vector Mask Instructions", "Vector Permutation
-- Instructions", "Vector Reduction Operations").
use Rattle.std.specs.Prelude.{ℕ, Bool, true, false, List, [], ◌∷◌, ◌++◌}
use Rattle.rv_decode.specs.Bits.{bits, rd_of, rs1_of, rs2_of}
use Rattle.rv_decode.specs.Rows.{Row, row}
use Rattle.rv_decode.specs.Operations.{V, X, I, U, VXU, Operation, operation, only_form, select, vm, vs1, vs2, is_masked}
use Rattle.rv_decode.specs.Words.{Count, FirstOp, FoldOp, Insn, LogicOp, Offset, Source, VMask, VMove, Logic, First, SetFirst}
use Rattle.rv_decode.specs.Words.{Iota, Index, Before, Only, Including, SlideUp, SlideDown, SlideOneUp, SlideOneDown, Gather, Gather16}
use Rattle.rv_decode.specs.Words.{Compress, Fold, WidenSum, ToScalar, FromScalar, One, Two, Four, Eight}

-- masks

abbrev pub logic : LogicOp → ℕ → Insn
logic op word = Insn.VMask (Logic op (rd_of word) (rs2_of word) (rs1_of word))

abbrev pub count : ℕ → Insn
count word = Insn.VMask (VMask.Count (rd_of word) (rs2_of word) (is_masked word))

abbrev pub first : ℕ → Insn
first word = Insn.VMask (First (rd_of word) (rs2_of word) (is_masked word))

abbrev pub set_first : FirstOp → ℕ → Insn
set_first op word = Insn.VMask (SetFirst op (rd_of word) (rs2_of word) (is_masked word))

abbrev pub iota : ℕ → Insn
iota word = Insn.VMask (Iota (rd_of word) (rs2_of word) (is_masked word))

abbrev pub index : ℕ → Insn
index word = Insn.VMask (Index (rd_of word) (is_masked word))

-- permutations

abbrev pub slide_up : Offset → ℕ → Insn
slide_up offset word = Insn.VPerm (SlideUp (rd_of word) (rs2_of word) offset (is_masked word))

abbrev pub slide_down : Offset → ℕ → Insn
slide_down offset word = Insn.VPerm (SlideDown (rd_of word) (rs2_of word) offset (is_masked word))

-- an offset in a register, and an unsigned immediate
abbrev pub by_register : (Offset → ℕ → Insn) → ℕ → Insn
by_register slide word = slide (Offset.Scalar (rs1_of word)) word

abbrev pub by_immediate : (Offset → ℕ → Insn) → ℕ → Insn
by_immediate slide word = slide (Offset.Immediate (bits 15 5 word)) word

abbrev pub slide_one_up : ℕ → Insn
slide_one_up word =
    Insn.VPerm (SlideOneUp (rd_of word) (rs2_of word) (rs1_of word) (is_masked word))

abbrev pub slide_one_down : ℕ → Insn
slide_one_down word =
    Insn.VPerm (SlideOneDown (rd_of word) (rs2_of word) (rs1_of word) (is_masked word))

abbrev pub gather : Source → ℕ → Insn
gather b word = Insn.VPerm (Gather (rd_of word) (rs2_of word) b (is_masked word))

abbrev pub gather16 : ℕ → Insn
gather16 word = Insn.VPerm (Gather16 (rd_of word) (rs2_of word) (rs1_of word) (is_masked word))

abbrev pub compress : ℕ → Insn
compress word = Insn.VPerm (Compress (rd_of word) (rs2_of word) (rs1_of word))

-- reductions

abbrev pub fold : FoldOp → ℕ → Insn
fold op word = Insn.VReduce (Fold op (rd_of word) (rs2_of word) (rs1_of word) (is_masked word))

abbrev pub widen_sum : Bool → ℕ → Insn
widen_sum signed word =
    Insn.VReduce (WidenSum signed (rd_of word) (rs2_of word) (rs1_of word) (is_masked word))

-- moves

abbrev pub to_scalar : ℕ → Insn
to_scalar word = Insn.VMove (ToScalar (rd_of word) (rs2_of word))

abbrev pub from_scalar : ℕ → Insn
from_scalar word = Insn.VMove (FromScalar (rd_of word) (rs1_of word))

abbrev pub whole : Count → ℕ → Insn
whole n word = Insn.VMove (VMove.Whole n (rd_of word) (rs2_of word))

-- VWXUNARY0: vmv.x.s, vcpop and vfirst, by what stands in the place of vs1
unfoldable pub to_scalar_rows : List Row
to_scalar_rows =
    row (vs1 0 ∷ vm 1 ∷ []) to_scalar ∷
    row (vs1 0x10 ∷ []) count ∷
    row (vs1 0x11 ∷ []) first ∷
    []

-- VMUNARY0: vmsbf, vmsof, vmsif, viota and vid, in the same way
unfoldable pub set_mask_rows : List Row
set_mask_rows =
    row (vs1 1 ∷ []) (set_first Before) ∷
    row (vs1 2 ∷ []) (set_first Only) ∷
    row (vs1 3 ∷ []) (set_first Including) ∷
    row (vs1 0x10 ∷ []) iota ∷
    row (vs1 0x11 ∷ vs2 0 ∷ []) index ∷
    []

-- vmv1r to vmv8r, by the immediate, which is one less than the number of registers
unfoldable pub whole_rows : List Row
whole_rows =
    row (vs1 0 ∷ vm 1 ∷ []) (whole One) ∷
    row (vs1 1 ∷ vm 1 ∷ []) (whole Two) ∷
    row (vs1 3 ∷ vm 1 ∷ []) (whole Four) ∷
    row (vs1 7 ∷ vm 1 ∷ []) (whole Eight) ∷
    []

-- the operations of OPI with a funct6 below 0x20
abbrev pub low_opi_elements : List Operation
low_opi_elements =
    operation 0x0c VXU gather ∷
    only_form 0x0e V [] gather16 ∷
    only_form 0x0e X [] (by_register slide_up) ∷
    only_form 0x0e U [] (by_immediate slide_up) ∷
    only_form 0x0f X [] (by_register slide_down) ∷
    only_form 0x0f U [] (by_immediate slide_down) ∷
    []

abbrev pub widen_sum_operations : List Operation
widen_sum_operations =
    only_form 0x30 V [] (widen_sum false) ∷
    only_form 0x31 V [] (widen_sum true) ∷
    []

-- the other operations of OPI
abbrev pub high_opi_elements : List Operation
high_opi_elements = select 0x27 I whole_rows ++ widen_sum_operations

abbrev pub fold_operations : List Operation
fold_operations =
    only_form 0x00 V [] (fold FoldOp.Sum) ∷
    only_form 0x01 V [] (fold FoldOp.And) ∷
    only_form 0x02 V [] (fold FoldOp.Or) ∷
    only_form 0x03 V [] (fold FoldOp.Xor) ∷
    only_form 0x04 V [] (fold FoldOp.Minu) ∷
    only_form 0x05 V [] (fold FoldOp.Min) ∷
    only_form 0x06 V [] (fold FoldOp.Maxu) ∷
    only_form 0x07 V [] (fold FoldOp.Max) ∷
    []

abbrev pub element_operations : List Operation
element_operations =
    only_form 0x0e X [] slide_one_up ∷
    only_form 0x0f X [] slide_one_down ∷
    only_form 0x10 X (vm 1 ∷ vs2 0 ∷ []) from_scalar ∷
    only_form 0x17 V (vm 1 ∷ []) compress ∷
    []

abbrev pub logic_operations : List Operation
logic_operations =
    only_form 0x18 V (vm 1 ∷ []) (logic LogicOp.Andn) ∷
    only_form 0x19 V (vm 1 ∷ []) (logic LogicOp.And) ∷
    only_form 0x1a V (vm 1 ∷ []) (logic LogicOp.Or) ∷
    only_form 0x1b V (vm 1 ∷ []) (logic LogicOp.Xor) ∷
    only_form 0x1c V (vm 1 ∷ []) (logic LogicOp.Orn) ∷
    only_form 0x1d V (vm 1 ∷ []) (logic LogicOp.Nand) ∷
    only_form 0x1e V (vm 1 ∷ []) (logic LogicOp.Nor) ∷
    only_form 0x1f V (vm 1 ∷ []) (logic LogicOp.Xnor) ∷
    []

abbrev pub mask_operations : List Operation
mask_operations = select 0x10 V to_scalar_rows ++ select 0x14 V set_mask_rows ++ logic_operations

-- the operations of OPM, all with a funct6 below 0x20
abbrev pub opm_elements : List Operation
opm_elements = fold_operations ++ element_operations ++ mask_operations
