-- What a step of a vector instruction keeps: the number of bytes of the registers, that they are
-- bytes, and those of all registers but its destination's.
use Rattle.std.specs.Prelude.{ℕ, ◌≡◌, ◌⊎◌, ◌<◌, ◌≤◌, ◌+◌, ◌*◌, Bool, true, false, List, length}
use Rattle.std.specs.Prelude.{get_or, Option, Some, None, Ok}
use Rattle.rv_decode.specs.declared.extents.Operand.{Operand}
use Rattle.rv_decode.specs.declared.instructions.Insn.TheVariants.{Scalar, Csr, VSet, VArith, VMask}
use Rattle.rv_decode.specs.declared.instructions.Insn.TheVariants.{VPerm, VReduce, VMem, VMove}
use Rattle.rv_decode.specs.{Encodings.FieldsFit, Needs.needs_of}
use Rattle.vreg_groups.specs.{VectorType.vtype_of, Legality.count_of}
use Rattle.vector_core.specs.Words.{Hart, Insn, Memory, Vtype}
use Rattle.vector_core.specs.{Step.vector_step, Vectors.Vectors, Vectors.IsVectors}

-- byte i of the registers is none of those that an operand covers
abbrev pub IsOutside : ℕ → Option Vtype → Option Operand → ℕ → Type 0
IsOutside vlenb t None i = Unit {0}
IsOutside vlenb t (Some operand) i =
    (i < operand.first * vlenb) ⊎ ((operand.first + count_of t operand.extent) * vlenb ≤ i)

-- a vector instruction that leaves vtype and vl as they are
abbrev pub is_computing : Insn → Bool
is_computing (Scalar insn) = false
is_computing (Csr insn) = false
is_computing (VSet insn) = false
is_computing (VArith insn) = true
is_computing (VMask insn) = true
is_computing (VPerm insn) = true
is_computing (VReduce insn) = true
is_computing (VMem insn) = true
is_computing (VMove insn) = true

-- The registers are 32 of vlenb bytes.
pub record AreRegisters (vlenb : ℕ) (registers : List ℕ) : Type 0 where
  pub count : length registers ≡ 32 * vlenb
  pub bytes : (i : ℕ) → get_or registers i 0 < 256

pub record KeepsVectors (vlenb : ℕ) (insn : Insn) (v next : Vectors) : Type 0 where
  pub config : next.config ≡ v.config
  pub registers : AreRegisters vlenb next.registers
  pub others : (i : ℕ) → IsOutside vlenb (vtype_of v.config.vtype) (needs_of insn).destination i
      → get_or next.registers i 0 ≡ get_or v.registers i 0

abbrev pub StepsKeepVectors : Type 0
StepsKeepVectors =
    (vlenb word : ℕ) (insn : Insn) (h hart : Hart) (v next : Vectors) (m memory : Memory)
    → is_computing insn ≡ true → FieldsFit insn → IsVectors vlenb v → AreRegisters vlenb v.registers
    → vector_step vlenb insn word h v m ≡ Ok (hart, next, memory) → KeepsVectors vlenb insn v next
