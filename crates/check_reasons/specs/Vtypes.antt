-- What vtype holds, and the words for it.
use Rattle.std.specs.Prelude.{Bool, true, false, ℕ, ◌++◌, List, codes, Option, Some, None, is_some, if◌then◌else◌}
use Rattle.std.specs.Fmt.{decimal}
use Rattle.rv_decode.specs.Instructions.{bits_of_width}
use Rattle.vreg_groups.specs.VectorType.{vtype_of}
use Rattle.vreg_groups.specs.declared.vector_type.Lmul.{Lmul}
use Rattle.vreg_groups.specs.declared.vector_type.Lmul.TheVariants as lmul
use Rattle.vreg_groups.specs.declared.vector_type.Vtype.{Vtype}
use Rattle.check_reasons.specs.declared.vtypes.HeldVtype.{HeldVtype}
use Rattle.check_reasons.specs.declared.vtypes.HeldVtype.TheVariants as held

-- ---- what a reason holds

-- what the register vtype holds; a type that is not supported counts as vill
abbrev pub held_of : ℕ → HeldVtype
held_of bits = if is_some (vtype_of bits) then held.Type bits else held.Vill

-- what a state of the check keeps of vtype
abbrev pub kept_vtype : Option ℕ → HeldVtype
kept_vtype None = held.Unknown
kept_vtype (Some bits) = held.Type bits

-- the vector type, where one is known and supported
abbrev pub vtype_in : HeldVtype → Option Vtype
vtype_in held.Unknown = None
vtype_in held.Vill = None
vtype_in (held.Type bits) = vtype_of bits

-- ---- the words

abbrev pub lmul_text : Lmul → List ℕ
lmul_text lmul.Quarter = codes "mf4"
lmul_text lmul.Half = codes "mf2"
lmul_text lmul.One = codes "m1"
lmul_text lmul.Two = codes "m2"
lmul_text lmul.Four = codes "m4"
lmul_text lmul.Eight = codes "m8"

abbrev pub tail_text : Bool → List ℕ
tail_text true = codes "ta"
tail_text false = codes "tu"

abbrev pub mask_text : Bool → List ℕ
mask_text true = codes "ma"
mask_text false = codes "mu"

-- SEW, LMUL and both policies, as assembly has them: `e8, m1, ta, ma`
unfoldable pub fields_text : Vtype → List ℕ
fields_text t = codes "e" ++ (decimal (bits_of_width t.sew) ++ (codes ", " ++ (lmul_text t.lmul
    ++ (codes ", " ++ (tail_text t.vta ++ (codes ", " ++ mask_text t.vma))))))

abbrev pub supported_text : Option Vtype → List ℕ
supported_text None = codes "one that is not supported"
supported_text (Some t) = fields_text t

-- bits 7 to 0 of vtype
unfoldable pub vtype_text : ℕ → List ℕ
vtype_text bits = supported_text (vtype_of bits)

-- a vector type that is known, if it is supported
abbrev pub type_text : Option Vtype → List ℕ
type_text None = codes "a vector type that is not supported"
type_text (Some t) = codes "a vector type of " ++ fields_text t

-- what vtype holds
unfoldable pub held_text : HeldVtype → List ℕ
held_text held.Unknown = codes "no vector type"
held_text held.Vill = codes "vill is set: there is no vector type"
held_text (held.Type bits) = type_text (vtype_of bits)
