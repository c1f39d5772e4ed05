-- Every byte that a run fetches, loads or stores is permitted: what an instruction accesses, and
-- the law on one step and on each step of a run.
use Rattle.std.specs.Prelude.{ℕ, ◌≡◌, ◌<◌, true, List, [], ◌∷◌, Some, Ok}
use Rattle.std.specs.List.{AllByRecursion}
use Rattle.rv_decode.specs.Decode.{meaning_of}
use Rattle.rv_decode.specs.declared.instructions.Insn.TheVariants.{Scalar, Csr, VSet, VArith, VMask}
use Rattle.rv_decode.specs.declared.instructions.Insn.TheVariants.{VPerm, VReduce, VMem, VMove}
use Rattle.rv_decode.specs.declared.instructions.ScalarInsn.TheVariants.{Lui, Auipc, Jal, Jalr}
use Rattle.rv_decode.specs.declared.instructions.ScalarInsn.TheVariants.{Branch, Load, Store, Fence}
use Rattle.rv_decode.specs.declared.instructions.ScalarInsn.TheVariants.{Immediate, ShiftImmediate}
use Rattle.rv_decode.specs.declared.instructions.ScalarInsn.TheVariants.{Register, Ecall}
use Rattle.region_mem.specs.declared.faults.Right.TheVariants.{Fetch}
use Rattle.region_mem.specs.Memory.{fetch_of, is_permitted}
use Rattle.scalar_core.specs.Step.{address_of, size_of_load, size_of_store}
use Rattle.vreg_groups.specs.VectorType.{type_in, vtype_of}
use Rattle.vector_mem.specs.{Transfers.accesses_of, declared.plan.Access.Access}
use Rattle.vector_core.specs.Words.{ScalarInsn, Read, Write, Hart, Insn, Memory, Right, reg_of}
use Rattle.vector_core.specs.{LoadsStores.stride_of, Setup.setup_of}
use Rattle.machine.specs.{Machine.Machine, MachineStep.step, Run.after}

-- the one access of a scalar load or store
abbrev pub one : Right → ℕ → ℕ → List Access
one right address size = record { element = 0; address = address; size = size; right = right } ∷ []

unfoldable pub accesses_of_scalar : ScalarInsn → Hart → List Access
accesses_of_scalar (Lui rd imm) h = []
accesses_of_scalar (Auipc rd imm) h = []
accesses_of_scalar (Jal rd offset) h = []
accesses_of_scalar (Jalr rd rs1 offset) h = []
accesses_of_scalar (Branch condition rs1 rs2 offset) h = []
accesses_of_scalar (Load kind rd rs1 offset) h =
    one Read (address_of rs1 offset h) (size_of_load kind)
accesses_of_scalar (Store size rs1 rs2 offset) h =
    one Write (address_of rs1 offset h) (size_of_store size)
accesses_of_scalar (Immediate op rd rs1 imm) h = []
accesses_of_scalar (ShiftImmediate op rd rs1 amount) h = []
accesses_of_scalar (Register op rd rs1 rs2) h = []
accesses_of_scalar Fence h = []
accesses_of_scalar Ecall h = []

-- The accesses of an instruction, beside the fetch of its word. A vector load or store has one for
-- each active element.
unfoldable pub accesses_of_insn : ℕ → Insn → Machine → List Access
accesses_of_insn vlenb (Scalar insn) m = accesses_of_scalar insn m.hart
accesses_of_insn vlenb (Csr insn) m = []
accesses_of_insn vlenb (VSet insn) m = []
accesses_of_insn vlenb (VArith insn) m = []
accesses_of_insn vlenb (VMask insn) m = []
accesses_of_insn vlenb (VPerm insn) m = []
accesses_of_insn vlenb (VReduce insn) m = []
accesses_of_insn vlenb (VMove insn) m = []
accesses_of_insn vlenb (VMem insn) m =
    accesses_of vlenb (setup_of (type_in (vtype_of m.vectors.config.vtype)) m.vectors) insn
    (reg_of insn.rs1 m.hart) (stride_of insn.place m.hart) m.vectors.registers

-- Each byte of each access lies in an area with the right, and none past the last address: that is
-- what `is_permitted` says. Areas do not overlap (`AreInOrder`), so that it is one area for each
-- byte.
abbrev pub ArePermitted : Memory → List Access → Type 0
ArePermitted memory list =
    AllByRecursion (λ a. is_permitted a.right a.address a.size memory ≡ true) list

-- The four bytes at pc may be fetched, and the instruction that they mean accesses nothing but what
-- it may.
abbrev pub IsPermittedStep : ℕ → Machine → Type 0
IsPermittedStep vlenb m =
    (is_permitted Fetch m.hart.pc 4 m.memory ≡ true) ×
    ((word : ℕ) (insn : Insn) → fetch_of m.hart.pc m.memory ≡ Some word →
    meaning_of word ≡ Some insn → ArePermitted m.memory (accesses_of_insn vlenb insn m))

-- The same by the areas of a memory that need not be the machine's own: those that a run started
-- with.
abbrev pub IsPermittedIn : Memory → ℕ → Machine → Type 0
IsPermittedIn memory vlenb m =
    (is_permitted Fetch m.hart.pc 4 memory ≡ true) ×
    ((word : ℕ) (insn : Insn) → fetch_of m.hart.pc m.memory ≡ Some word →
    meaning_of word ≡ Some insn → ArePermitted memory (accesses_of_insn vlenb insn m))

-- A step that is no fault is permitted,
abbrev pub StepsArePermitted : Type 0
StepsArePermitted = (vlenb : ℕ) (m t : Machine) → step vlenb m ≡ Ok t → IsPermittedStep vlenb m

-- and so is each of the first k steps of a run, where the state after them is there.
abbrev pub RunsArePermitted : Type 0
RunsArePermitted =
    (vlenb : ℕ) (m t : Machine) (k : ℕ) → after vlenb m k ≡ Ok t →
    (j : ℕ) → j < k → (u : Machine) → after vlenb m j ≡ Ok u → IsPermittedStep vlenb u
