-- Laws of one step: what is known after an instruction is true of the machine that it leads to.
use Rattle.std.specs.Prelude.{ℕ, ◌≡◌, ◌<◌, ◌+◌, ◌%◌, ◌^◌, ◌==◌, Bool, true, false, if◌then◌else◌, List, Some, Result, Ok, Err}
use Rattle.abs_state.specs.Words.{IsImage, Insn, Csr, VPerm, VReduce, VMove, ScalarInsn, Lui, Auipc, Jal, Jalr, Branch, ShiftImmediate, Register, Fence, Ecall, CsrInsn, FieldsFit, Memory, AreBytes, Vconfig, Hart, IsHart, Machine, carry_out, IsCertificate}
use Rattle.rv_decode.specs.declared.instructions.Insn.TheVariants.{Scalar, VSet, VArith, VMask, VMem}
use Rattle.rv_decode.specs.declared.instructions.ScalarInsn.TheVariants.{Load, Store, Immediate}
use Rattle.rv_decode.specs.Decode.{meaning_of}
use Rattle.region_mem.specs.declared.faults.Fault.{Fault}
use Rattle.region_mem.specs.declared.faults.Fault.TheVariants.{JumpMisaligned}
use Rattle.scalar_core.specs.Csr.{csr_step}
use Rattle.scalar_core.specs.Step.{rv32im_step}
use Rattle.machine.specs.MachineStep.{unless_misaligned}
use Rattle.abs_state.specs.declared.state.Way.{Way}
use Rattle.abs_state.specs.declared.state.Way.TheVariants.{To}
use Rattle.abs_domain.specs.declared.zones.Zone.{Zone}
use Rattle.abs_domain.specs.Numbers.{NumbersView}
use Rattle.abs_transfer.specs.Scalar.{scalar_after}
use Rattle.abs_transfer.specs.Csr.{csr_after}
use Rattle.abs_domain.specs.Holds.{Holds, Follows}
use Rattle.abs_domain.specs.Memories.{HasZones, KeepsMemory}
use Rattle.abs_state.specs.State.{AbstractView}
use Rattle.abs_state.specs.After.{next_word, way_of, after_of}
use Rattle.abs_state.specs.Held.{Setting, Held, IsAt, vlenb_in}

-- ---- harts and memory

-- a hart and memory, or the fault of a jump where the hart's pc is no multiple of 4
abbrev pub or_misaligned : Hart → Memory → Result (Hart × Memory) Fault
or_misaligned h m = if h.pc % 4 == 0 then Ok (h, m) else Err (JumpMisaligned h.pc)

-- A step leads to a hart that fits what is known next, and a memory. A jump to an address
-- that is no multiple of 4 counts as one there, though it faults.
pub record StepIsHeld (s new : NumbersView) (v : ℕ → ℕ) (config : Vconfig) (way : Way) (m : Memory)
    (result : Result (Hart × Memory) Fault) : Type 0 where
  pub hart : Hart
  pub memory : Memory
  pub is : result ≡ or_misaligned hart memory
  pub is_hart : IsHart hart
  pub kept : KeepsMemory m memory
  pub follows : Follows s new v hart config
  pub at : IsAt way hart

-- So does each instruction of RV32I and M that is well formed and not refused.
abbrev pub ScalarStepsHold : Type 0
ScalarStepsHold =
    (s new : NumbersView) (v : ℕ → ℕ) (zones : List Zone) (insn : ScalarInsn) (h : Hart)
    (config : Vconfig) (m : Memory) → FieldsFit (Scalar insn) → IsHart h → HasZones zones m
    → AreBytes m → h.pc % 4 ≡ 0 → Holds s v h config → scalar_after h.pc insn zones s ≡ Ok new
    → StepIsHeld s new v config (way_of h.pc insn s) m (rv32im_step insn h m)

-- So does each on a CSR.
abbrev pub CsrStepsHold : Type 0
CsrStepsHold =
    (s : NumbersView) (v : ℕ → ℕ) (vlenb : ℕ) (insn : CsrInsn) (h : Hart) (config : Vconfig)
    (m : Memory) → FieldsFit (Csr insn) → IsHart h → vlenb < 2 ^ 32 → config.vtype < 2 ^ 32
    → h.pc % 4 ≡ 0 → Holds s v h config
    → StepIsHeld s (csr_after vlenb insn s) v config (To (next_word h.pc)) m
    (Ok (csr_step insn vlenb config h, m))

-- ---- machines

-- A step leads to a machine that fits what is known next, or to the fault of a
-- misaligned jump there.
pub record MachineIsHeld (e : Setting) (n : ℕ) (b : AbstractView) (result : Result Machine Fault)
    : Type 0 where
  pub t : Machine
  pub is : result ≡ unless_misaligned t
  pub held : Held e n b t

-- So does each instruction that is not refused, where what is known before it is true of a machine.
abbrev pub StepsAreHeld : Type 0
StepsAreHeld =
    (e : Setting) (n : ℕ) (a b : AbstractView) (s : Machine) (word : ℕ) (insn : Insn)
    → IsImage e.image → IsCertificate e.certificate → Held e n a s → s.hart.pc % 4 ≡ 0
    → meaning_of word ≡ Some insn → after_of s.hart.pc insn a ≡ Ok b
    → MachineIsHeld e n b (carry_out (vlenb_in e) word s insn)

-- ---- words and ways

-- Each instruction counts as one.
abbrev pub StepsCount : Type 0
StepsCount =
    (pc : ℕ) (insn : Insn) (a b : AbstractView) → after_of pc insn a ≡ Ok b
    → b.words ≡ a.words + 1

-- a branch, jal, jalr or ecall
unfoldable pub jumps : Insn → Bool
jumps (Scalar (Branch condition rs1 rs2 offset)) = true
jumps (Scalar (Jal rd offset)) = true
jumps (Scalar (Jalr rd rs1 offset)) = true
jumps (Scalar Ecall) = true
jumps (Scalar (Lui rd imm)) = false
jumps (Scalar (Auipc rd imm)) = false
jumps (Scalar (Load kind rd rs1 offset)) = false
jumps (Scalar (Store size rs1 rs2 offset)) = false
jumps (Scalar (Immediate op rd rs1 imm)) = false
jumps (Scalar (ShiftImmediate op rd rs1 amount)) = false
jumps (Scalar (Register op rd rs1 rs2)) = false
jumps (Scalar Fence) = false
jumps (Csr insn) = false
jumps (VSet insn) = false
jumps (VArith insn) = false
jumps (VMask insn) = false
jumps (VPerm insn) = false
jumps (VReduce insn) = false
jumps (VMem insn) = false
jumps (VMove insn) = false

-- All others lead to the next word.
abbrev pub StepsGoOn : Type 0
StepsGoOn =
    (pc : ℕ) (insn : Insn) (a b : AbstractView) → jumps insn ≡ false → after_of pc insn a ≡ Ok b
    → b.way ≡ To (next_word pc)
