-- What a run keeps of memory: where its areas lie, their rights, what was passed, and each byte
-- that may not be written.
use Rattle.std.specs.Prelude.{ℕ, ◌≡◌, false, Ok}
use Rattle.region_mem.specs.{Areas.is_open, Laws.HasExtentsOf, Memory.byte_of}
use Rattle.vector_core.specs.Words.{Write, Memory}
use Rattle.machine.specs.{Machine.Machine, MachineStep.step, Run.after}

pub record Keeps (memory next : Memory) : Type 0 where
  pub extents : HasExtentsOf next memory
  pub unwritable : (x : ℕ) → is_open Write memory.areas x ≡ false
      → byte_of x next ≡ byte_of x memory

abbrev pub StepsKeep : Type 0
StepsKeep = (vlenb : ℕ) (m t : Machine) → step vlenb m ≡ Ok t → Keeps m.memory t.memory

abbrev pub RunsKeep : Type 0
RunsKeep = (vlenb : ℕ) (m t : Machine) (k : ℕ) → after vlenb m k ≡ Ok t → Keeps m.memory t.memory
