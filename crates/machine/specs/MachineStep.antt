-- One step: fetch, decode, and what the instruction does.
use Rattle.std.specs.Prelude.{ℕ, ◌%◌, ◌==◌, Option, Some, None, Result, Ok, Err, if◌then◌else◌}
use Rattle.rv_decode.specs.declared.instructions.Insn.TheVariants as class
use Rattle.rv_decode.specs.Decode.{meaning_of}
use Rattle.region_mem.specs.declared.faults.Fault.TheVariants.{FetchFault, JumpMisaligned}
use Rattle.region_mem.specs.Memory.{fetch_of}
use Rattle.scalar_core.specs.Step.{scalar_step}
use Rattle.vector_core.specs.Words.{Insn, Fault, Illegal, Memory, Hart}
use Rattle.vector_core.specs.{Vectors.Vectors, Step.vector_step}
use Rattle.machine.specs.Machine.{Machine}

-- the machine with what a scalar step made of its hart and memory
abbrev pub with_scalar : Machine → Result (Hart × Memory) Fault → Result Machine Fault
with_scalar m (Ok (hart, memory)) = Ok (record m { hart = hart; memory = memory })
with_scalar m (Err fault) = Err fault

-- the machine that a vector step made
abbrev pub with_vector : Result (Hart × Vectors × Memory) Fault → Result Machine Fault
with_vector (Ok (hart, vectors, memory)) =
    Ok (record { hart = hart; vectors = vectors; memory = memory })
with_vector (Err fault) = Err fault

-- The instruction is carried out by its class.
unfoldable pub carry_out : ℕ → ℕ → Machine → Insn → Result Machine Fault
carry_out vlenb word m (class.Scalar insn) =
    with_scalar m (scalar_step vlenb (class.Scalar insn) m.vectors.config m.hart m.memory)
carry_out vlenb word m (class.Csr insn) =
    with_scalar m (scalar_step vlenb (class.Csr insn) m.vectors.config m.hart m.memory)
carry_out vlenb word m (class.VSet insn) =
    with_vector (vector_step vlenb (class.VSet insn) word m.hart m.vectors m.memory)
carry_out vlenb word m (class.VArith insn) =
    with_vector (vector_step vlenb (class.VArith insn) word m.hart m.vectors m.memory)
carry_out vlenb word m (class.VMask insn) =
    with_vector (vector_step vlenb (class.VMask insn) word m.hart m.vectors m.memory)
carry_out vlenb word m (class.VPerm insn) =
    with_vector (vector_step vlenb (class.VPerm insn) word m.hart m.vectors m.memory)
carry_out vlenb word m (class.VReduce insn) =
    with_vector (vector_step vlenb (class.VReduce insn) word m.hart m.vectors m.memory)
carry_out vlenb word m (class.VMove insn) =
    with_vector (vector_step vlenb (class.VMove insn) word m.hart m.vectors m.memory)
carry_out vlenb word m (class.VMem insn) =
    with_vector (vector_step vlenb (class.VMem insn) word m.hart m.vectors m.memory)

-- A word that means nothing is illegal.
abbrev pub decoded : ℕ → ℕ → Machine → Option Insn → Result Machine Fault
decoded vlenb word m None = Err (Illegal word)
decoded vlenb word m (Some insn) = carry_out vlenb word m insn

-- The four bytes at pc have to be ones that may be fetched.
abbrev pub fetched : ℕ → Machine → Option ℕ → Result Machine Fault
fetched vlenb m None = Err (FetchFault m.hart.pc)
fetched vlenb m (Some word) = decoded vlenb word m (meaning_of word)

-- the machine after one step, or the fault
unfoldable pub step : ℕ → Machine → Result Machine Fault
step vlenb m = fetched vlenb m (fetch_of m.hart.pc m.memory)

-- A step that leads to an address that is not a multiple of four is a fault; `m` is where it would
-- lead.
unfoldable pub unless_misaligned : Machine → Result Machine Fault
unless_misaligned m = if m.hart.pc % 4 == 0 then Ok m else Err (JumpMisaligned m.hart.pc)
