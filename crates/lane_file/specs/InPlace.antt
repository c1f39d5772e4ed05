-- What an operation on operands of one width makes of the registers where they lie
-- ("Vector Integer Arithmetic Instructions", "Mapping of Vector Elements to Vector Register State").
use Rattle.std.specs.Prelude.{◌≡◌, ◌⊎◌, ⊤, ℕ, ◌+◌, ◌-◌, ◌*◌, ◌^◌, ◌<◌, ◌≤◌, ◌==◌, ◌&&◌, ◌||◌, Bool, true, false, not, nat_le, is_some, if◌then◌else◌, zero, suc, List, length, replicate, slice_index}
use Rattle.std.specs.Int.{Width}
use lib.Lanes.{zip2}
use Rattle.byteorder.specs.Endian.{little_from}
use Rattle.lane_fixed.specs.Chunks.{chunk_op}
use Rattle.lane_fixed.specs.FixedPoint.{any_active, element as fixed_element, saturates}
use Rattle.lane_fixed.specs.declared.operations.Op.{Op}
use Rattle.lane_fixed.specs.declared.operations.Op.TheVariants.{Saddu, Sadd, Ssubu, Ssub}
use Rattle.lane_fixed.specs.declared.operations.RoundingMode.{RoundingMode}
use Rattle.lane_int.specs.Chunks.{has_chunk}
use Rattle.lane_int.specs.Integer.{element, multiply_added}
use Rattle.lane_int.specs.Lists.{zip3}
use Rattle.rv_decode.specs.declared.instructions.FixedOp.{FixedOp}
use Rattle.rv_decode.specs.declared.instructions.IntOp.{IntOp}
use Rattle.rv_decode.specs.declared.instructions.MultiplyAddOp.{MultiplyAddOp}
use Rattle.rv_decode.specs.declared.extents.Eew.TheVariants.{Same}
use Rattle.vreg_groups.specs.Elements.{active_of, elements_of, mask_bit}
use Rattle.vreg_groups.specs.Group.{IsGroupInside, body_of, written}
use Rattle.vreg_groups.specs.Legality.{group_count}
use Rattle.vreg_groups.specs.NewElements.{filled, policy_of}
use Rattle.vreg_groups.specs.Setup.{group_at}
use Rattle.vreg_groups.specs.declared.policies.Agnostic.{Agnostic}
use Rattle.vreg_groups.specs.declared.setup.Setup.{Setup}
use Rattle.vreg_groups.specs.declared.vector_type.Vtype.{Vtype}
use Rattle.lane_file.specs.declared.second.Second.{Second}
use Rattle.lane_file.specs.declared.second.Second.TheVariants.{Group, Splat}

-- ---- what is written

-- the elements of the second source
unfoldable pub second_of : {A : Type 0} → ℕ → (A → ℕ) → Setup → Second A → List ℕ → List ℕ
second_of vlenb number s (Group vs1) file = body_of vlenb (group_at s vs1 Same) file
second_of vlenb number s (Splat value) file = replicate s.vl (number value)

-- vd is an operation on vs2 and the elements ys. Where vl is 0 nothing is written.
unfoldable pub int_written : ℕ → Setup → Width → IntOp → ℕ → ℕ → List ℕ → Bool → List ℕ → List ℕ
int_written vlenb s w op vd vs2 ys masked file =
    if s.vl == 0 then file
    else written vlenb (group_at s vd Same) (policy_of s.agnostic s.vtype)
    (zip2 (element op w) (body_of vlenb (group_at s vs2 Same) file) ys)
    (active_of vlenb masked s.vl file) file

-- vd is what f answers of vs2, the elements ys and the old vd
unfoldable pub all_written : ℕ → Setup → (ℕ → ℕ → ℕ → ℕ) → ℕ → ℕ → List ℕ → Bool → List ℕ → List ℕ
all_written vlenb s f vd vs2 ys masked file =
    if s.vl == 0 then file
    else written vlenb (group_at s vd Same) (policy_of s.agnostic s.vtype)
    (zip3 f (body_of vlenb (group_at s vs2 Same) file) ys (body_of vlenb (group_at s vd Same) file))
    (active_of vlenb masked s.vl file) file

-- vd is a product and a sum of the elements ys, vs2 and the old vd
abbrev pub multiply_add_written : ℕ → Setup → Width → MultiplyAddOp → ℕ → ℕ → List ℕ → Bool
    → List ℕ → List ℕ
multiply_add_written vlenb s w op = all_written vlenb s (multiply_added op w)

-- vd is a fixed-point operation on vs2 and the elements ys
unfoldable pub fixed_written : ℕ → Setup → Width → FixedOp → RoundingMode → ℕ → ℕ → List ℕ → Bool
    → List ℕ → List ℕ
fixed_written vlenb s w op mode vd vs2 ys masked file =
    if s.vl == 0 then file
    else written vlenb (group_at s vd Same) (policy_of s.agnostic s.vtype)
    (zip2 (fixed_element op mode w) (body_of vlenb (group_at s vs2 Same) file) ys)
    (active_of vlenb masked s.vl file) file

-- whether an active element saturates
unfoldable pub fixed_saturated : ℕ → Setup → Width → FixedOp → RoundingMode → ℕ → List ℕ → Bool
    → List ℕ → Bool
fixed_saturated vlenb s w op mode vs2 ys masked file =
    any_active (saturates op mode w) (body_of vlenb (group_at s vs2 Same) file) ys
    (active_of vlenb masked s.vl file)

-- groups of `count` registers that are the same, or have none in common
abbrev pub are_apart : ℕ → ℕ → ℕ → Bool
are_apart count d a = (a == d) || nat_le (a + count) d || nat_le (d + count) a

abbrev pub is_second_apart : {A : Type 0} → ℕ → ℕ → Second A → Bool
is_second_apart count d (Group vs1) = are_apart count d vs1
is_second_apart count d (Splat value) = true

-- no source is overwritten before it is read, and the mask stays
abbrev pub is_free : {A : Type 0} → Setup → ℕ → ℕ → Second A → Bool → Bool
is_free s vd vs2 b masked =
    are_apart (group_count s.vtype Same) vd vs2
    && is_second_apart (group_count s.vtype Same) vd b && not (masked && (vd == 0))

-- and the operation has a chunk call
abbrev pub is_done : {A : Type 0} → Setup → IntOp → ℕ → ℕ → Second A → Bool → Bool
is_done s op vd vs2 b masked = has_chunk op && is_free s vd vs2 b masked

abbrev pub is_fixed_done : {A : Type 0} → Setup → FixedOp → RoundingMode → ℕ → ℕ → Second A → Bool
    → Bool
is_fixed_done s op mode vd vs2 b masked =
    is_some (chunk_op op mode) && is_free s vd vs2 b masked

-- a second source that is a group is inside the registers
abbrev pub IsSecondInside : {A : Type 0} → Vtype → Second A → Type 0
IsSecondInside t (Group vs1) = IsGroupInside t vs1 Same
IsSecondInside t (Splat value) = ⊤

-- ---- how it is done: by places in the registers' bytes

-- its elements, where there are `vl` of them
abbrev pub second_list : {A : Type 0} → ℕ → ℕ → (A → ℕ) → ℕ → Second A → List ℕ → List ℕ
second_list vlenb size number vl (Group vs1) file = elements_of vlenb size vs1 vl file
second_list vlenb size number vl (Splat value) file = replicate vl (number value)

-- a group of `count` registers is within the registers
abbrev pub IsSecondWithin : {A : Type 0} → ℕ → Second A → Type 0
IsSecondWithin count (Group vs1) = vs1 + count ≤ 32
IsSecondWithin count (Splat value) = ⊤

-- n bytes from place a on are those from place d on, or apart from them
abbrev pub Apart : ℕ → ℕ → ℕ → Type 0
Apart d a n = (a ≡ d) ⊎ (a + n ≤ d) ⊎ (d + n ≤ a)

abbrev pub IsSecondApart : {A : Type 0} → ℕ → ℕ → Second A → ℕ → Type 0
IsSecondApart vlenb d (Group vs1) n = Apart d (vs1 * vlenb) n
IsSecondApart vlenb d (Splat value) n = ⊤

-- the registers hold n bytes of a second source that is a group
abbrev pub HasRoom : {A : Type 0} → ℕ → Second A → ℕ → Type 0
HasRoom vlenb (Group vs1) n = vs1 * vlenb + n ≤ 32 * vlenb
HasRoom vlenb (Splat value) n = ⊤

-- the element that lies at a place of the second source
abbrev pub other_of : {A : Type 0} → ℕ → ℕ → (A → ℕ) → Second A → ℕ → List ℕ → ℕ
other_of vlenb size number (Group vs1) place file = little_from (vs1 * vlenb + place) size file
other_of vlenb size number (Splat value) place file = number value

-- element i is active
abbrev pub is_active : ℕ → Bool → ℕ → List ℕ → Bool
is_active vlenb masked i file = if masked then mask_bit vlenb 0 file i else true

-- the flags of chunk m are set in the bytes of elements whose bit in v0 is set, and clear in others
abbrev pub AreFlags : ℕ → ℕ → ℕ → List ℕ → List ℕ → Type 0
AreFlags vlenb size m file flags =
    (k i : ℕ) → k < 16 → i * size ≤ 16 * m + k → 16 * m + k < i * size + size
    → (mask_bit vlenb 0 file i ≡ true → 0 < slice_index flags k)
    × (mask_bit vlenb 0 file i ≡ false → slice_index flags k ≡ 0)

-- what element i of the body becomes, where f answers
abbrev pub target : {A : Type 0} → ℕ → ℕ → (A → ℕ) → (ℕ → ℕ → ℕ → ℕ) → ℕ → ℕ → Second A → Bool
    → Agnostic → List ℕ → ℕ → ℕ
target vlenb size number f d a b masked inactive file i =
    if is_active vlenb masked i file
    then f (little_from (a + size * i) size file)
    (other_of vlenb size number b (size * i) file) (little_from (d + size * i) size file)
    else filled inactive (256 ^ size - 1) (little_from (d + size * i) size file)

-- whether element i is active and the test holds of it
abbrev pub holds_at : {A : Type 0} → ℕ → ℕ → (A → ℕ) → (ℕ → ℕ → Bool) → ℕ → Second A → Bool → List ℕ
    → ℕ → Bool
holds_at vlenb size number test a b masked file i =
    is_active vlenb masked i file
    && test (little_from (a + size * i) size file) (other_of vlenb size number b (size * i) file)

-- the operations that clip, so that they can saturate
abbrev pub clips : Op → Bool
clips Saddu = true
clips Sadd = true
clips Ssubu = true
clips Ssub = true
clips op = false

-- whether t holds of one of the first n numbers
abbrev pub any_of : (ℕ → Bool) → ℕ → Bool
any_of t zero = false
any_of t (suc n) = t 0 || any_of (λ i. t (suc i)) n

-- each element within n bytes from place d on is the one that z tells
abbrev pub IsDone : ℕ → ℕ → (ℕ → ℕ) → ℕ → List ℕ → Type 0
IsDone size d z n new = (i : ℕ) → size * i + size ≤ n → little_from (d + size * i) size new ≡ z i

-- the bytes other than the n from place d on
abbrev pub IsKept : ℕ → ℕ → List ℕ → List ℕ → Type 0
IsKept d n old new =
    (length new ≡ length old)
    × ((k : ℕ) → (k < d) ⊎ (d + n ≤ k) → slice_index new k ≡ slice_index old k)
