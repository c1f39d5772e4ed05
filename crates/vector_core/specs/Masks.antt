-- Instructions on masks, a definition for each shape ("Vector Mask Instructions").
use Rattle.std.specs.Prelude.{ℕ, Bool, false, List, unwrap_or}
use lib.Lanes.{zip2}
use Rattle.rv_decode.specs.declared.instructions.VMask.TheVariants.{Logic, Count, First, SetFirst}
use Rattle.rv_decode.specs.declared.instructions.VMask.TheVariants.{Iota, Index}
use Rattle.rv_decode.specs.declared.instructions.LogicOp.TheVariants.{And}
use Rattle.lane_masks.specs.Masks as lanes
use Rattle.vector_core.specs.Words.{Hart, Memory, Same, Setup, VMask, active_of, mask_bits, LogicOp}
use Rattle.vector_core.specs.Words.{FirstOp}
use Rattle.vector_core.specs.Operands.{bits_written, results_written}
use Rattle.vector_core.specs.Vectors.{Stepped, Vectors, in_registers, in_scalar}
use Rattle.vector_core.specs.{Integer.lane_width, Setup.group_at}

-- the bits of vs2 below vl that are set and active
unfoldable pub set_and_active : ℕ → Setup → ℕ → Bool → List ℕ → List Bool
set_and_active vlenb s vs2 masked file =
    zip2 (lanes.logic_of And) (mask_bits vlenb vs2 s.vl file) (active_of vlenb masked s.vl file)

-- the bits of vd are an operation on those of vs2 and vs1
unfoldable pub logic_of : ℕ → Setup → LogicOp → ℕ → ℕ → ℕ → List ℕ → List ℕ
logic_of vlenb s op vd vs2 vs1 file =
    bits_written vlenb s vd false
    (zip2 (lanes.logic_of op) (mask_bits vlenb vs2 s.vl file) (mask_bits vlenb vs1 s.vl file)) file

-- vcpop: how many bits of vs2 are set and active
unfoldable pub count_of : ℕ → Setup → ℕ → Bool → List ℕ → ℕ
count_of vlenb s vs2 masked file = lanes.set_count (set_and_active vlenb s vs2 masked file)

-- vfirst: the number of the first of them, or -1
unfoldable pub first_of : ℕ → Setup → ℕ → Bool → List ℕ → ℕ
first_of vlenb s vs2 masked file =
    unwrap_or (lanes.first_set (set_and_active vlenb s vs2 masked file)) 0xffff_ffff

-- vmsbf, vmsif, vmsof: the bits of vd lie before, up to or at the first of them
unfoldable pub set_first_of : ℕ → Setup → FirstOp → ℕ → ℕ → Bool → List ℕ → List ℕ
set_first_of vlenb s op vd vs2 masked file =
    bits_written vlenb s vd masked
    (lanes.set_first_of op (set_and_active vlenb s vs2 masked file)) file

-- viota: each element of vd is how many of them lie below it
unfoldable pub iota_of : ℕ → Setup → ℕ → ℕ → Bool → List ℕ → List ℕ
iota_of vlenb s vd vs2 masked file =
    results_written vlenb s (group_at s vd Same) masked
    (lanes.iota_of (lane_width s.vtype.sew) (set_and_active vlenb s vs2 masked file)) file

-- vid: each element of vd is its own number
unfoldable pub index_of : ℕ → Setup → ℕ → Bool → List ℕ → List ℕ
index_of vlenb s vd masked file =
    results_written vlenb s (group_at s vd Same) masked
    (lanes.index_of (lane_width s.vtype.sew) s.vl) file

unfoldable pub mask_step : ℕ → Setup → VMask → Hart → Vectors → Memory → Stepped
mask_step vlenb s (Logic op vd vs2 vs1) hart v memory =
    in_registers (logic_of vlenb s op vd vs2 vs1 v.registers) hart v memory
mask_step vlenb s (Count rd vs2 masked) hart v memory =
    in_scalar rd (count_of vlenb s vs2 masked v.registers) hart v memory
mask_step vlenb s (First rd vs2 masked) hart v memory =
    in_scalar rd (first_of vlenb s vs2 masked v.registers) hart v memory
mask_step vlenb s (SetFirst op vd vs2 masked) hart v memory =
    in_registers (set_first_of vlenb s op vd vs2 masked v.registers) hart v memory
mask_step vlenb s (Iota vd vs2 masked) hart v memory =
    in_registers (iota_of vlenb s vd vs2 masked v.registers) hart v memory
mask_step vlenb s (Index vd masked) hart v memory =
    in_registers (index_of vlenb s vd masked v.registers) hart v memory
