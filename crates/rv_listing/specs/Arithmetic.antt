-- Vector arithmetic as text ("Vector Integer Arithmetic Instructions", "Vector Fixed-Point
-- Arithmetic Instructions").
use Rattle.std.specs.Prelude.{ℕ, Bool, true, false, not, List, [], ◌∷◌, codes}
use Rattle.rv_decode.specs.declared.instructions.{Source.Source, VArith.VArith, Fraction.Fraction}
use Rattle.rv_decode.specs.declared.instructions.VArith.TheVariants.{Int, MultiplyAdd, Carry, CarryOut, Merge, Copy, Compare, Fixed, Widen, Wide, WidenMultiplyAdd, Narrow, Clip, Extend}
use Rattle.rv_listing.specs.Fields.{line_text}
use Rattle.rv_listing.specs.Names.{int_name, multiply_add_name, carry_name, carry_out_name, compare_name, fixed_name, widen_name, wide_name, widen_multiply_add_name, narrow_name, clip_name}
use Rattle.rv_listing.specs.declared.arithmetic.Forms.{Forms}
use Rattle.rv_listing.specs.declared.arithmetic.Forms.TheVariants.{Single, Doubled, WithMask}
use Rattle.rv_listing.specs.declared.fields.Field.{Field}
use Rattle.rv_listing.specs.declared.fields.Field.TheVariants.{Vd, Rs1, Vs2, Vs1, Imm, Vm}

-- the suffix, by the second operand
abbrev pub form_text : Forms → Source → List ℕ
form_text Single (Source.Vector vs1) = codes ".vv"
form_text Single (Source.Scalar rs1) = codes ".vx"
form_text Single (Source.Immediate imm) = codes ".vi"
form_text Doubled (Source.Vector vs1) = codes ".wv"
form_text Doubled (Source.Scalar rs1) = codes ".wx"
form_text Doubled (Source.Immediate imm) = codes ".wi"
form_text WithMask (Source.Vector vs1) = codes ".vvm"
form_text WithMask (Source.Scalar rs1) = codes ".vxm"
form_text WithMask (Source.Immediate imm) = codes ".vim"

-- the operands, in the order of fields: rs1 stands before vs2; vm is 0 where the mask governs
abbrev pub operand_fields : ℕ → ℕ → Source → Bool → List Field
operand_fields vd vs2 (Source.Vector vs1) masked = Vd vd ∷ Vs2 vs2 ∷ Vs1 vs1 ∷ Vm (not masked) ∷ []
operand_fields vd vs2 (Source.Scalar rs1) masked = Vd vd ∷ Rs1 rs1 ∷ Vs2 vs2 ∷ Vm (not masked) ∷ []
operand_fields vd vs2 (Source.Immediate imm) masked =
    Vd vd ∷ Vs2 vs2 ∷ Imm imm ∷ Vm (not masked) ∷ []

-- an instruction with two sources
unfoldable pub operation_text : List ℕ → Forms → ℕ → ℕ → Source → Bool → List ℕ
operation_text name forms vd vs2 b masked =
    line_text name (form_text forms b) (operand_fields vd vs2 b masked)

-- vmv.v: there is no first operand
unfoldable pub copy_text : ℕ → Source → List ℕ
copy_text vd (Source.Vector vs1) =
    line_text (codes "vmv") (codes ".v.v") (Vd vd ∷ Vs1 vs1 ∷ Vm true ∷ [])
copy_text vd (Source.Scalar rs1) =
    line_text (codes "vmv") (codes ".v.x") (Vd vd ∷ Rs1 rs1 ∷ Vm true ∷ [])
copy_text vd (Source.Immediate imm) =
    line_text (codes "vmv") (codes ".v.i") (Vd vd ∷ Imm imm ∷ Vm true ∷ [])

-- vzext, vsext, and the fraction of SEW that they extend
abbrev pub extend_name : Bool → List ℕ
extend_name true = codes "vsext"
extend_name false = codes "vzext"

abbrev pub fraction_form : Fraction → List ℕ
fraction_form Fraction.Half = codes ".vf2"
fraction_form Fraction.Quarter = codes ".vf4"

unfoldable pub arithmetic_text : VArith → List ℕ
arithmetic_text (Int op vd vs2 b masked) = operation_text (int_name op) Single vd vs2 b masked
arithmetic_text (MultiplyAdd op vd vs2 b masked) =
    operation_text (multiply_add_name op) Single vd vs2 b masked
arithmetic_text (Carry op vd vs2 b) = operation_text (carry_name op) WithMask vd vs2 b true
arithmetic_text (CarryOut op vd vs2 b true) =
    operation_text (carry_out_name op) WithMask vd vs2 b true
arithmetic_text (CarryOut op vd vs2 b false) =
    operation_text (carry_out_name op) Single vd vs2 b false
arithmetic_text (Merge vd vs2 b) = operation_text (codes "vmerge") WithMask vd vs2 b true
arithmetic_text (Copy vd b) = copy_text vd b
arithmetic_text (Compare op vd vs2 b masked) =
    operation_text (compare_name op) Single vd vs2 b masked
arithmetic_text (Fixed op vd vs2 b masked) = operation_text (fixed_name op) Single vd vs2 b masked
arithmetic_text (Widen op vd vs2 b masked) = operation_text (widen_name op) Single vd vs2 b masked
arithmetic_text (Wide op vd vs2 b masked) = operation_text (wide_name op) Doubled vd vs2 b masked
arithmetic_text (WidenMultiplyAdd op vd vs2 b masked) =
    operation_text (widen_multiply_add_name op) Single vd vs2 b masked
arithmetic_text (Narrow op vd vs2 b masked) =
    operation_text (narrow_name op) Doubled vd vs2 b masked
arithmetic_text (Clip op vd vs2 b masked) = operation_text (clip_name op) Doubled vd vs2 b masked
arithmetic_text (Extend signed of vd vs2 masked) =
    line_text (extend_name signed) (fraction_form of) (Vd vd ∷ Vs2 vs2 ∷ Vm (not masked) ∷ [])
