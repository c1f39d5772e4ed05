-- The vector instructions but arithmetic and accesses as text ("Vector Instruction Listing"): all
-- show vm, but the vset forms.
use Rattle.std.specs.Prelude.{ℕ, Bool, true, false, not, List, [], ◌∷◌, codes}
use Rattle.rv_decode.specs.declared.instructions.{Offset.Offset, Source.Source, VMask.VMask, VMove.VMove, VPerm.VPerm, VReduce.VReduce, VSet.VSet}
use Rattle.rv_decode.specs.declared.instructions.VPerm.TheVariants.{SlideUp, SlideDown, SlideOneUp, SlideOneDown, Gather, Gather16, Compress}
use Rattle.rv_listing.specs.Arithmetic.{operation_text}
use Rattle.rv_listing.specs.Fields.{line_text}
use Rattle.rv_listing.specs.Names.{fold_name, logic_name, set_first_name, whole_move_name}
use Rattle.rv_listing.specs.declared.arithmetic.Forms.TheVariants.{Single}
use Rattle.rv_listing.specs.declared.fields.Field.{Field}
use Rattle.rv_listing.specs.declared.fields.Field.TheVariants.{Rd, Vd, Rs1, Rs2, Vs2, Vs1, Avl, Amount, Vm}

-- the requested vtype is the immediate
unfoldable pub vset_text : VSet → List ℕ
vset_text (VSet.Vsetvli rd rs1 vtype) =
    line_text (codes "vsetvli") [] (Rd rd ∷ Rs1 rs1 ∷ Amount vtype ∷ [])
vset_text (VSet.Vsetivli rd avl vtype) =
    line_text (codes "vsetivli") [] (Rd rd ∷ Avl avl ∷ Amount vtype ∷ [])
vset_text (VSet.Vsetvl rd rs1 rs2) = line_text (codes "vsetvl") [] (Rd rd ∷ Rs1 rs1 ∷ Rs2 rs2 ∷ [])

-- an instruction on one mask, by its name and its destination
abbrev pub one_mask_text : List ℕ → Field → ℕ → Bool → List ℕ
one_mask_text name destination vs2 masked =
    line_text name (codes ".m") (destination ∷ Vs2 vs2 ∷ Vm (not masked) ∷ [])

unfoldable pub mask_text : VMask → List ℕ
mask_text (VMask.Logic op vd vs2 vs1) =
    line_text (logic_name op) (codes ".mm") (Vd vd ∷ Vs2 vs2 ∷ Vs1 vs1 ∷ Vm true ∷ [])
mask_text (VMask.Count rd vs2 masked) =
    one_mask_text (codes "vcpop") (Rd rd) vs2 masked
mask_text (VMask.First rd vs2 masked) =
    one_mask_text (codes "vfirst") (Rd rd) vs2 masked
mask_text (VMask.SetFirst op vd vs2 masked) =
    one_mask_text (set_first_name op) (Vd vd) vs2 masked
mask_text (VMask.Iota vd vs2 masked) =
    one_mask_text (codes "viota") (Vd vd) vs2 masked
mask_text (VMask.Index vd masked) =
    line_text (codes "vid") (codes ".v") (Vd vd ∷ Vm (not masked) ∷ [])

-- vslideup, vslidedown: an immediate offset is unsigned
unfoldable pub slide_text : List ℕ → ℕ → ℕ → Offset → Bool → List ℕ
slide_text name vd vs2 (Offset.Scalar rs1) masked =
    line_text name (codes ".vx") (Vd vd ∷ Rs1 rs1 ∷ Vs2 vs2 ∷ Vm (not masked) ∷ [])
slide_text name vd vs2 (Offset.Immediate amount) masked =
    line_text name (codes ".vi") (Vd vd ∷ Vs2 vs2 ∷ Amount amount ∷ Vm (not masked) ∷ [])

unfoldable pub permutation_text : VPerm → List ℕ
permutation_text (SlideUp vd vs2 offset masked) = slide_text (codes "vslideup") vd vs2 offset masked
permutation_text (SlideDown vd vs2 offset masked) =
    slide_text (codes "vslidedown") vd vs2 offset masked
permutation_text (SlideOneUp vd vs2 rs1 masked) =
    operation_text (codes "vslide1up") Single vd vs2 (Source.Scalar rs1) masked
permutation_text (SlideOneDown vd vs2 rs1 masked) =
    operation_text (codes "vslide1down") Single vd vs2 (Source.Scalar rs1) masked
permutation_text (Gather vd vs2 b masked) = operation_text (codes "vrgather") Single vd vs2 b masked
permutation_text (Gather16 vd vs2 vs1 masked) =
    operation_text (codes "vrgatherei16") Single vd vs2 (Source.Vector vs1) masked
permutation_text (Compress vd vs2 vs1) =
    line_text (codes "vcompress") (codes ".vm") (Vd vd ∷ Vs2 vs2 ∷ Vs1 vs1 ∷ Vm true ∷ [])

abbrev pub widen_sum_name : Bool → List ℕ
widen_sum_name true = codes "vwredsum"
widen_sum_name false = codes "vwredsumu"

-- a reduction, by its name
abbrev pub named_reduction : List ℕ → ℕ → ℕ → ℕ → Bool → List ℕ
named_reduction name vd vs2 vs1 masked =
    line_text name (codes ".vs") (Vd vd ∷ Vs2 vs2 ∷ Vs1 vs1 ∷ Vm (not masked) ∷ [])

unfoldable pub reduction_text : VReduce → List ℕ
reduction_text (VReduce.Fold op vd vs2 vs1 masked) =
    named_reduction (fold_name op) vd vs2 vs1 masked
reduction_text (VReduce.WidenSum signed vd vs2 vs1 masked) =
    named_reduction (widen_sum_name signed) vd vs2 vs1 masked

unfoldable pub move_text : VMove → List ℕ
move_text (VMove.ToScalar rd vs2) =
    line_text (codes "vmv") (codes ".x.s") (Rd rd ∷ Vs2 vs2 ∷ Vm true ∷ [])
move_text (VMove.FromScalar vd rs1) =
    line_text (codes "vmv") (codes ".s.x") (Vd vd ∷ Rs1 rs1 ∷ Vm true ∷ [])
move_text (VMove.Whole count vd vs2) =
    line_text (whole_move_name count) (codes ".v") (Vd vd ∷ Vs2 vs2 ∷ Vm true ∷ [])
