-- What a step touches: it changes no byte but those that its list of accesses writes, and what it
-- does depends on no byte but those of its word and those that the list reads.
use Rattle.std.specs.Prelude.{ℕ, ◌≡◌, ◌⊎◌, ◌<◌, ◌≤◌, ◌+◌, map, Some, Result, Ok, Err}
use Rattle.std.specs.List.{AllByRecursion}
use Rattle.rv_decode.specs.Decode.{meaning_of}
use Rattle.region_mem.specs.{Laws.extent_of, Memory.byte_of, Memory.fetch_of}
use Rattle.vector_mem.specs.declared.plan.Access.{Access}
use Rattle.vector_core.specs.Words.{Fault, Read, Write, Hart, Insn, Memory}
use Rattle.vector_core.specs.Vectors.{Vectors}
use Rattle.machine.specs.{Machine.Machine, MachineStep.step, Permitted.accesses_of_insn}

-- The access does not write the byte at x.
abbrev pub IsNotWritten : ℕ → Access → Type 0
IsNotWritten x a = a.right ≡ Write → (x < a.address) ⊎ (a.address + a.size ≤ x)

-- The step of this machine changes no byte but those that an access of its instruction writes.
abbrev pub WritesInside : ℕ → Machine → Type 0
WritesInside vlenb m =
    (word x : ℕ) (insn : Insn) (t : Machine) → step vlenb m ≡ Ok t
    → fetch_of m.hart.pc m.memory ≡ Some word → meaning_of word ≡ Some insn
    → AllByRecursion (IsNotWritten x) (accesses_of_insn vlenb insn m)
    → byte_of x t.memory ≡ byte_of x m.memory

-- The bytes that the access reads are the same in both memories.
abbrev pub IsReadAlike : Memory → Memory → Access → Type 0
IsReadAlike other memory a =
    a.right ≡ Read → (x : ℕ) → a.address ≤ x → x < a.address + a.size
    → byte_of x other ≡ byte_of x memory

-- The other machine differs from m in no more than bytes that the step of m neither fetches nor
-- loads.
pub record IsAlike (vlenb : ℕ) (other m : Machine) : Type 0 where
  pub hart : other.hart ≡ m.hart
  pub vectors : other.vectors ≡ m.vectors
  pub extents : map extent_of other.memory.areas ≡ map extent_of m.memory.areas
  pub fetched : (x : ℕ) → m.hart.pc ≤ x → x < m.hart.pc + 4
      → byte_of x other.memory ≡ byte_of x m.memory
  pub read : (word : ℕ) (insn : Insn) → fetch_of m.hart.pc m.memory ≡ Some word
      → meaning_of word ≡ Some insn
      → AllByRecursion (IsReadAlike other.memory m.memory) (accesses_of_insn vlenb insn m)

-- what a step makes of hart and vectors, or its fault
abbrev pub without_memory : Result Machine Fault → Result (Hart × Vectors) Fault
without_memory (Ok t) = Ok (t.hart, t.vectors)
without_memory (Err fault) = Err fault

-- The bytes that the access writes are the same in both memories.
abbrev pub IsWrittenAlike : Memory → Memory → Access → Type 0
IsWrittenAlike other memory a =
    a.right ≡ Write → (x : ℕ) → a.address ≤ x → x < a.address + a.size
    → byte_of x other ≡ byte_of x memory

-- Where both machines have a next state, their steps write the same bytes.
abbrev pub WritesAlike : ℕ → Machine → Machine → Type 0
WritesAlike vlenb other m =
    (word : ℕ) (insn : Insn) (t u : Machine) → step vlenb m ≡ Ok t → step vlenb other ≡ Ok u
    → fetch_of m.hart.pc m.memory ≡ Some word → meaning_of word ≡ Some insn
    → AllByRecursion (IsWrittenAlike u.memory t.memory) (accesses_of_insn vlenb insn m)

-- The step of this machine goes the same way from each machine that is alike, and writes the same.
abbrev pub ReadsInside : ℕ → Machine → Type 0
ReadsInside vlenb m =
    (other : Machine) → IsAlike vlenb other m
    → (without_memory (step vlenb other) ≡ without_memory (step vlenb m))
    × WritesAlike vlenb other m

-- So it is of every machine.
abbrev pub StepsWriteInside : Type 0
StepsWriteInside = (vlenb : ℕ) (m : Machine) → WritesInside vlenb m

abbrev pub StepsReadInside : Type 0
StepsReadInside = (vlenb : ℕ) (m : Machine) → ReadsInside vlenb m
