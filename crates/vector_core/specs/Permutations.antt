-- Instructions that move elements among places, a definition for each shape ("Vector Permutation
-- Instructions").
use Rattle.std.specs.Prelude.{ℕ, ◌==◌, Bool, true, false, List, ◌++◌, drop, length, min, replicate}
use Rattle.std.specs.Prelude.{if◌then◌else◌}
use Rattle.std.specs.Int.{w32, cast_unsigned}
use Rattle.rv_decode.specs.declared.instructions.Source.TheVariants.{Vector, Scalar, Immediate}
use Rattle.rv_decode.specs.declared.instructions.VPerm.TheVariants as perm
use Rattle.lane_masks.specs.Folds.{kept}
use Rattle.lane_masks.specs.Permutations.{gathered, slid_down, slid_one_down, slid_one_up, slid_up}
use Rattle.vreg_groups.specs.Group.{group_of, written}
use Rattle.vreg_groups.specs.{NewElements.policy_of, VectorType.vlmax_of}
use Rattle.rv_decode.specs.declared.instructions.Offset.TheVariants as offset
use Rattle.vector_core.specs.Words.{Fixed, Hart, Memory, Same, Setup, Source, Span, VPerm, W16}
use Rattle.vector_core.specs.Words.{active_of, body_of, bytes_of_width, low_bits, mask_bits, reg_of, Offset}
use Rattle.vector_core.specs.Vectors.{Stepped, Vectors, in_registers}
use Rattle.vector_core.specs.{Operands.results_written, Setup.group_at}

-- all elements of SEW that a group has: VLMAX of them, whatever vl is
abbrev pub all_at : ℕ → Setup → ℕ → Span
all_at vlenb s first = group_of s.vtype (vlmax_of vlenb s.vtype) first Same

-- how far a slide goes: all 32 bits of x[rs1], or an immediate
abbrev pub distance_of : Offset → Hart → ℕ
distance_of (offset.Scalar rs1) hart = reg_of rs1 hart
distance_of (offset.Immediate imm) hart = imm

-- elements of the body below the offset stay as they are, wherever they are inactive too: they
-- count as active, and their results are their old values
abbrev pub active_from : ℕ → List Bool → List Bool
active_from distance active =
    replicate (min distance (length active)) true ++ drop (min distance (length active)) active

unfoldable pub results_written_from : ℕ → Setup → Span → ℕ → Bool → List ℕ → List ℕ → List ℕ
results_written_from vlenb s group distance masked results file =
    if s.vl == 0 then file
    else written vlenb group (policy_of s.agnostic s.vtype) results
    (active_from distance (active_of vlenb masked s.vl file)) file

-- element i of vd is element i - offset of vs2, from the offset on
unfoldable pub slide_up_of : ℕ → Setup → Hart → ℕ → ℕ → Offset → Bool → List ℕ → List ℕ
slide_up_of vlenb s hart vd vs2 offset masked file =
    results_written_from vlenb s (group_at s vd Same) (distance_of offset hart) masked
    (slid_up (distance_of offset hart) (body_of vlenb (group_at s vs2 Same) file)
    (body_of vlenb (group_at s vd Same) file)) file

-- element i of vd is element i + offset of vs2, and 0 where that is at or past VLMAX
unfoldable pub slide_down_of : ℕ → Setup → Hart → ℕ → ℕ → Offset → Bool → List ℕ → List ℕ
slide_down_of vlenb s hart vd vs2 offset masked file =
    results_written vlenb s (group_at s vd Same) masked
    (slid_down (distance_of offset hart) (body_of vlenb (all_at vlenb s vs2) file) 0 s.vl) file

-- by one place: x[rs1] comes in at element 0, or at element vl - 1
unfoldable pub slide_one_up_of : ℕ → Setup → Hart → ℕ → ℕ → ℕ → Bool → List ℕ → List ℕ
slide_one_up_of vlenb s hart vd vs2 rs1 masked file =
    results_written vlenb s (group_at s vd Same) masked
    (slid_one_up (low_bits (bytes_of_width s.vtype.sew) (reg_of rs1 hart))
    (body_of vlenb (group_at s vs2 Same) file)) file

unfoldable pub slide_one_down_of : ℕ → Setup → Hart → ℕ → ℕ → ℕ → Bool → List ℕ → List ℕ
slide_one_down_of vlenb s hart vd vs2 rs1 masked file =
    results_written vlenb s (group_at s vd Same) masked
    (slid_one_down (low_bits (bytes_of_width s.vtype.sew) (reg_of rs1 hart))
    (body_of vlenb (group_at s vs2 Same) file)) file

-- the indices of a gather: the elements of vs1, or for all all 32 bits of x[rs1], or an immediate
unfoldable pub indices_of : ℕ → Setup → Hart → Source → List ℕ → List ℕ
indices_of vlenb s hart (Vector vs1) file = body_of vlenb (group_at s vs1 Same) file
indices_of vlenb s hart (Scalar rs1) file = replicate s.vl (reg_of rs1 hart)
indices_of vlenb s hart (Immediate imm) file = replicate s.vl (cast_unsigned w32 imm)

-- each element of vd is that of vs2 at its index, and 0 where that is at or past VLMAX
unfoldable pub gather_of : ℕ → Setup → Hart → ℕ → ℕ → Source → Bool → List ℕ → List ℕ
gather_of vlenb s hart vd vs2 b masked file =
    results_written vlenb s (group_at s vd Same) masked
    (gathered (body_of vlenb (all_at vlenb s vs2) file) 0 (indices_of vlenb s hart b file)) file

-- the same with indices of 16 bits
unfoldable pub gather16_of : ℕ → Setup → ℕ → ℕ → ℕ → Bool → List ℕ → List ℕ
gather16_of vlenb s vd vs2 vs1 masked file =
    results_written vlenb s (group_at s vd Same) masked
    (gathered (body_of vlenb (all_at vlenb s vs2) file) 0
    (body_of vlenb (group_at s vs1 (Fixed W16)) file)) file

-- the elements of vs2 whose bit of vs1 is set, packed; past them is the tail
unfoldable pub compress_of : ℕ → Setup → ℕ → ℕ → ℕ → List ℕ → List ℕ
compress_of vlenb s vd vs2 vs1 file =
    results_written vlenb s (group_at s vd Same) false
    (kept (mask_bits vlenb vs1 s.vl file) (body_of vlenb (group_at s vs2 Same) file)) file

unfoldable pub perm_of : ℕ → Setup → Hart → VPerm → List ℕ → List ℕ
perm_of vlenb s hart (perm.SlideUp vd vs2 offset masked) file =
    slide_up_of vlenb s hart vd vs2 offset masked file
perm_of vlenb s hart (perm.SlideDown vd vs2 offset masked) file =
    slide_down_of vlenb s hart vd vs2 offset masked file
perm_of vlenb s hart (perm.SlideOneUp vd vs2 rs1 masked) file =
    slide_one_up_of vlenb s hart vd vs2 rs1 masked file
perm_of vlenb s hart (perm.SlideOneDown vd vs2 rs1 masked) file =
    slide_one_down_of vlenb s hart vd vs2 rs1 masked file
perm_of vlenb s hart (perm.Gather vd vs2 b masked) file =
    gather_of vlenb s hart vd vs2 b masked file
perm_of vlenb s hart (perm.Gather16 vd vs2 vs1 masked) file =
    gather16_of vlenb s vd vs2 vs1 masked file
perm_of vlenb s hart (perm.Compress vd vs2 vs1) file = compress_of vlenb s vd vs2 vs1 file

unfoldable pub perm_step : ℕ → Setup → VPerm → Hart → Vectors → Memory → Stepped
perm_step vlenb s insn hart v memory =
    in_registers (perm_of vlenb s hart insn v.registers) hart v memory
