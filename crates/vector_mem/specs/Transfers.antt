-- What a vector load or store moves, by where its elements lie ("Vector Unit-Stride
-- Instructions", "Vector Strided Instructions", "Vector Indexed Instructions", "Vector Load/Store
-- Whole Register Instructions"): all of its accesses are made, or the first that is not permitted
-- is the fault and none is.
use Rattle.std.specs.Prelude.{ℕ, ◌≡◌, ◌==◌, Bool, true, false, not, List, Option, Some, None, Result, Ok, Err, if◌then◌else◌}
use Rattle.vector_mem.specs.Words.{Access, Addressing, Direction, Fault, Fixed, Indexed, Load, LoadFault, Mask, Memory, Policy, Read, Right}
use Rattle.rv_decode.specs.Needs.{needs_of_access}
use Rattle.vreg_groups.specs.Setup.{IsReady}
use Rattle.vector_mem.specs.declared.transfers.Transfer.{Transfer}
use Rattle.vector_mem.specs.Words.{Same, Setup, Span, Store, StoreFault, Strided, Unit, VMem, W8, Whole, Width, Write, active_of}
use Rattle.vector_mem.specs.Words.{body_of, bytes_of_width, group_at, mask_bytes_of, mask_policy_of, policy_of, whole_of, written}
use Rattle.vector_mem.specs.Accesses.{accesses, first_refused, indexed, loaded, stored, strided}

-- the registers of the data and the elements that are moved: those of the body; of a mask the bytes
-- that hold its bits; of whole registers all of them
unfoldable pub data_at : ℕ → Setup → Addressing → ℕ → Span
data_at vlenb s (Unit width masked) first = group_at s first (Fixed width)
data_at vlenb s (Strided width rs2 masked) first = group_at s first (Fixed width)
data_at vlenb s (Indexed width vs2 ordered masked) first = group_at s first Same
data_at vlenb s Mask first = mask_bytes_of s.vl first
data_at vlenb s (Whole width count) first = whole_of vlenb first count width

abbrev pub data_of : ℕ → Setup → VMem → Span
data_of vlenb s insn = data_at vlenb s insn.place insn.values

-- the width of its elements
abbrev pub width_at : Setup → Addressing → Width
width_at s (Unit width masked) = width
width_at s (Strided width rs2 masked) = width
width_at s (Indexed width vs2 ordered masked) = s.vtype.sew
width_at s Mask = W8
width_at s (Whole width count) = width

-- whether only those are moved whose bit of v0 is 1
abbrev pub is_masked : Addressing → Bool
is_masked (Unit width masked) = masked
is_masked (Strided width rs2 masked) = masked
is_masked (Indexed width vs2 ordered masked) = masked
is_masked Mask = false
is_masked (Whole width count) = false

-- whether the elements lie one after another, and all of them are moved
abbrev pub is_in_a_row : Addressing → Bool
is_in_a_row (Unit width masked) = not masked
is_in_a_row (Strided width rs2 masked) = false
is_in_a_row (Indexed width vs2 ordered masked) = false
is_in_a_row Mask = true
is_in_a_row (Whole width count) = true

abbrev pub moved_of : ℕ → Setup → VMem → List ℕ → List Bool
moved_of vlenb s insn file = active_of vlenb (is_masked insn.place) (data_of vlenb s insn).vl file

-- where an element lies, from x[rs1] and x[rs2] on; indices are unsigned
unfoldable pub place_at : ℕ → Setup → Addressing → ℕ → ℕ → List ℕ → ℕ → ℕ
place_at vlenb s (Unit width masked) base stride file = strided base (bytes_of_width width)
place_at vlenb s (Strided width rs2 masked) base stride file = strided base stride
place_at vlenb s (Indexed width vs2 ordered masked) base stride file =
    indexed base (body_of vlenb (group_at s vs2 (Fixed width)) file)
place_at vlenb s Mask base stride file = strided base 1
place_at vlenb s (Whole width count) base stride file = strided base (bytes_of_width width)

abbrev pub right_of : Direction → Right
right_of Load = Read
right_of Store = Write

-- the accesses of an instruction
unfoldable pub accesses_of : ℕ → Setup → VMem → ℕ → ℕ → List ℕ → List Access
accesses_of vlenb s insn base stride file =
    accesses (right_of insn.direction) (data_of vlenb s insn).bytes
    (place_at vlenb s insn.place base stride file)
    (moved_of vlenb s insn file)

-- the tail of a mask, after its whole bytes, is always agnostic
abbrev pub load_policy : Setup → Addressing → Policy
load_policy s (Unit width masked) = policy_of s.agnostic s.vtype
load_policy s (Strided width rs2 masked) = policy_of s.agnostic s.vtype
load_policy s (Indexed width vs2 ordered masked) = policy_of s.agnostic s.vtype
load_policy s Mask = mask_policy_of s.agnostic s.vtype
load_policy s (Whole width count) = policy_of s.agnostic s.vtype

-- the registers after a load gave these elements. Where there are none nothing is written,
-- the tail neither.
unfoldable pub loaded_to : ℕ → Setup → VMem → List ℕ → List ℕ → List ℕ
loaded_to vlenb s insn values file =
    if (data_of vlenb s insn).vl == 0 then file
    else written vlenb (data_of vlenb s insn) (load_policy s insn.place) values
    (moved_of vlenb s insn file) file

-- the fault of an access that is refused, or else what comes of them all
abbrev pub unless_refused : {A : Type 0} → (ℕ → Fault) → Option Access → A → Result A Fault
unless_refused fault (Some access) new = Err (fault access.address)
unless_refused fault None new = Ok new

-- the registers that a load leaves
unfoldable pub vector_load : ℕ → Setup → VMem → ℕ → ℕ → List ℕ → Memory → Result (List ℕ) Fault
vector_load vlenb s insn base stride file memory =
    let list = accesses_of vlenb s insn base stride file in
    unless_refused LoadFault (first_refused list memory)
    (loaded_to vlenb s insn (loaded (data_of vlenb s insn).vl list memory) file)

-- the memory that a store leaves
unfoldable pub vector_store : ℕ → Setup → VMem → ℕ → ℕ → List ℕ → Memory → Result Memory Fault
vector_store vlenb s insn base stride file memory =
    let list = accesses_of vlenb s insn base stride file in
    unless_refused StoreFault (first_refused list memory)
    (stored list (body_of vlenb (data_of vlenb s insn) file) memory)

-- a load or store in this direction whose operands are ready
pub record IsTransfer (vlenb : ℕ) (t : Transfer) (direction : Direction) : Type 0 where
  pub ready : IsReady vlenb t.setup (needs_of_access t.insn)
  pub direction_is : t.insn.direction ≡ direction

abbrev pub accesses_asked : ℕ → Transfer → List ℕ → List Access
accesses_asked vlenb t file = accesses_of vlenb t.setup t.insn t.base t.stride file

abbrev pub load_asked : ℕ → Transfer → List ℕ → Memory → Result (List ℕ) Fault
load_asked vlenb t file memory = vector_load vlenb t.setup t.insn t.base t.stride file memory

abbrev pub store_asked : ℕ → Transfer → List ℕ → Memory → Result Memory Fault
store_asked vlenb t file memory = vector_store vlenb t.setup t.insn t.base t.stride file memory

-- its elements lie `apart` bytes apart from its base on
abbrev pub IsApart : ℕ → Transfer → ℕ → List ℕ → Type 0
IsApart vlenb t apart file =
    place_at vlenb t.setup t.insn.place t.base t.stride file ≡ strided t.base apart
