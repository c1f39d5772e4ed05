-- Every byte that a run fetches, loads or stores is permitted: by the tests on which its steps depend.
use Rattle.std.proofs.Common.{◌≡◌, ◌<◌, ℕ, zero, suc, ℤ, Bool, true, false, List, [], ◌∷◌, refl, Option, Some, None, Result, Ok, Err, arith, below_more}
use Rattle.std.specs.Prelude.{if◌then◌else◌, not, find}
use Rattle.rv_decode.specs.Decode.{meaning_of}
use Rattle.rv_decode.specs.declared.instructions.Direction.{Direction}
use Rattle.rv_decode.specs.declared.instructions.Direction.TheVariants as way
use Rattle.rv_decode.specs.declared.instructions.Insn.TheVariants.{Scalar, Csr, VSet, VArith, VMask, VPerm, VReduce, VMem, VMove}
use Rattle.rv_decode.specs.declared.instructions.LoadKind.{LoadKind}
use Rattle.rv_decode.specs.declared.instructions.ScalarInsn.{ScalarInsn}
use Rattle.rv_decode.specs.declared.instructions.ScalarInsn.TheVariants.{Lui, Auipc, Jal, Jalr, Branch, Load, Store, Immediate, ShiftImmediate, Register, Fence, Ecall}
use Rattle.rv_decode.specs.declared.instructions.VMem as mem
use Rattle.rv_decode.specs.declared.instructions.Width.{Width}
use Rattle.region_mem.specs.declared.faults.Right.TheVariants.{Fetch, Read, Write}
use Rattle.region_mem.specs.Memory.{fetch_of, is_permitted, load_of, store_of}
use Rattle.scalar_core.specs.Step.{address_of, beside, load_from, load_step, rv32im_step, scalar_step, size_of_load, size_of_store, store_from, store_step}
use Rattle.vreg_groups.specs.Legality.{is_legal}
use Rattle.vreg_groups.specs.VectorType.{type_in, vtype_of}
use Rattle.vector_mem.specs.Accesses.{first_refused, is_refused}
use Rattle.vector_mem.specs.Transfers.{accesses_of, unless_refused, vector_load, vector_store}
use Rattle.vector_mem.specs.declared.plan.Access.{Access}
use Rattle.vector_core.specs.LoadsStores.{direction_step, loaded_step, memory_step, stored_step, stride_of}
use Rattle.vector_core.specs.Setup.{setup_of}
use Rattle.vector_core.specs.Step.{legal_step, vector_step}
use Rattle.vector_core.specs.Vectors.{Vectors}
use Rattle.vector_core.specs.Words.{Fault, Hart, Illegal, Insn, Memory, Setup, reg_of}
use Rattle.machine.specs.Machine.{Machine}
use Rattle.machine.specs.MachineStep.{carry_out, fetched, step, with_scalar, with_vector}
use Rattle.machine.specs.Permitted.{ArePermitted, IsPermittedStep, RunsArePermitted, StepsArePermitted, accesses_of_insn, accesses_of_scalar}
use Rattle.machine.specs.Run.{after, then_step}

-- ---- lists of accesses

-- none of a list is refused where the first that is refused is none
none_refused : (memory : Memory) (list : List Access) → find (is_refused memory) list ≡ None
    → ArePermitted memory list
none_refused memory [] e = tt
none_refused memory (a ∷ list) e =
    by_test (is_permitted a.right a.address a.size memory) refl e (none_refused memory list)
  where
    by_test : (b : Bool) → is_permitted a.right a.address a.size memory ≡ b
        → (if not b then Some a else find (is_refused memory) list) ≡ None
        → (find (is_refused memory) list ≡ None → ArePermitted memory list)
        → ArePermitted memory (a ∷ list)
    by_test true permitted rest more = (permitted, more rest)
    by_test false refused rest more = absurd (cc)

-- ---- scalar loads and stores

module _ (m t : Machine) where
  load_permitted : (kind : LoadKind) (rd rs1 : ℕ) (offset : ℤ)
      → with_scalar m (beside m.memory (load_step kind rd rs1 offset m.hart m.memory)) ≡ Ok t
      → is_permitted Read (address_of rs1 offset m.hart) (size_of_load kind) m.memory ≡ true
  unfolding beside load_step load_from load_of
  load_permitted kind rd rs1 offset e = by_test _ _ e
    where
      by_test : (b : Bool) (n : ℕ)
          → with_scalar m (beside m.memory (load_from kind rd (address_of rs1 offset m.hart) m.hart
          (if b then Some n else None))) ≡ Ok t → b ≡ true
      by_test true n k = refl
      by_test false n k = absurd (cc)

  store_permitted : (size : Width) (rs1 rs2 : ℕ) (offset : ℤ)
      → with_scalar m (store_step size rs1 rs2 offset m.hart m.memory) ≡ Ok t
      → is_permitted Write (address_of rs1 offset m.hart) (size_of_store size) m.memory ≡ true
  unfolding store_step store_from store_of
  store_permitted size rs1 rs2 offset e = by_test _ _ e
    where
      by_test : (b : Bool) (new : Memory)
          → with_scalar m (store_from (address_of rs1 offset m.hart) m.hart
          (if b then Some new else None)) ≡ Ok t → b ≡ true
      by_test true new k = refl
      by_test false new k = absurd (cc)

  scalar_permitted : (insn : ScalarInsn) → with_scalar m (rv32im_step insn m.hart m.memory) ≡ Ok t
      → ArePermitted m.memory (accesses_of_scalar insn m.hart)
  unfolding rv32im_step accesses_of_scalar
  scalar_permitted (Lui rd imm) e = tt
  scalar_permitted (Auipc rd imm) e = tt
  scalar_permitted (Jal rd offset) e = tt
  scalar_permitted (Jalr rd rs1 offset) e = tt
  scalar_permitted (Branch condition rs1 rs2 offset) e = tt
  scalar_permitted (Load kind rd rs1 offset) e = (load_permitted kind rd rs1 offset e, tt)
  scalar_permitted (Store size rs1 rs2 offset) e = (store_permitted size rs1 rs2 offset e, tt)
  scalar_permitted (Immediate op rd rs1 imm) e = tt
  scalar_permitted (ShiftImmediate op rd rs1 amount) e = tt
  scalar_permitted (Register op rd rs1 rs2) e = tt
  scalar_permitted Fence e = tt
  scalar_permitted Ecall e = tt

-- ---- vector loads and stores

module _ (vlenb : ℕ) (s : Setup) (h : Hart) (v : Vectors) (memory : Memory) (t : Machine) where
  abbrev Permitted : mem.VMem → Type 0
  Permitted insn =
      ArePermitted memory
      (accesses_of vlenb s insn (reg_of insn.rs1 h) (stride_of insn.place h) v.registers)

  load_refuses : (refused : Option Access) (fault : ℕ → Fault) (new : List ℕ)
      → with_vector (loaded_step (unless_refused fault refused new) h v memory) ≡ Ok t
      → refused ≡ None
  load_refuses None fault new e = refl
  load_refuses (Some a) fault new e = absurd (cc)

  store_refuses : (refused : Option Access) (fault : ℕ → Fault) (new : Memory)
      → with_vector (stored_step (unless_refused fault refused new) h v) ≡ Ok t
      → refused ≡ None
  store_refuses None fault new e = refl
  store_refuses (Some a) fault new e = absurd (cc)

  direction_permitted : (d : Direction) (insn : mem.VMem)
      → with_vector (direction_step d vlenb s insn h v memory) ≡ Ok t → Permitted insn
  unfolding direction_step vector_load vector_store first_refused
  direction_permitted way.Load insn e = none_refused memory _ (load_refuses _ _ _ e)
  direction_permitted way.Store insn e = none_refused memory _ (store_refuses _ _ _ e)

  access_permitted : (insn : mem.VMem)
      → with_vector (legal_step vlenb s (VMem insn) h v memory) ≡ Ok t → Permitted insn
  unfolding legal_step memory_step
  access_permitted insn e = direction_permitted insn.direction insn e

vector_permitted : (vlenb word : ℕ) (insn : mem.VMem) (m t : Machine)
    → with_vector (vector_step vlenb (VMem insn) word m.hart m.vectors m.memory) ≡ Ok t
    → ArePermitted m.memory (accesses_of_insn vlenb (VMem insn) m)
unfolding vector_step accesses_of_insn
vector_permitted vlenb word insn m t e = by_test (is_legal m.vectors.config (VMem insn)) e
  where
    by_test : (b : Bool)
        → with_vector (if b
        then legal_step vlenb (setup_of (type_in (vtype_of m.vectors.config.vtype)) m.vectors)
        (VMem insn) m.hart m.vectors m.memory
        else Err (Illegal word)) ≡ Ok t
        → ArePermitted m.memory (accesses_of_insn vlenb (VMem insn) m)
    by_test true k = access_permitted vlenb _ m.hart m.vectors m.memory t insn k
    by_test false k = absurd (cc)

-- ---- a step, and the steps of a run

carried_permitted : (vlenb word : ℕ) (m t : Machine) (insn : Insn)
    → carry_out vlenb word m insn ≡ Ok t → ArePermitted m.memory (accesses_of_insn vlenb insn m)
unfolding carry_out scalar_step accesses_of_insn
carried_permitted vlenb word m t (Scalar insn) e = scalar_permitted m t insn e
carried_permitted vlenb word m t (Csr insn) e = tt
carried_permitted vlenb word m t (VSet insn) e = tt
carried_permitted vlenb word m t (VArith insn) e = tt
carried_permitted vlenb word m t (VMask insn) e = tt
carried_permitted vlenb word m t (VPerm insn) e = tt
carried_permitted vlenb word m t (VReduce insn) e = tt
carried_permitted vlenb word m t (VMove insn) e = tt
carried_permitted vlenb word m t (VMem insn) e = vector_permitted vlenb word insn m t e

fetch_permitted : (vlenb : ℕ) (m t : Machine) → fetched vlenb m (fetch_of m.hart.pc m.memory) ≡ Ok t
    → is_permitted Fetch m.hart.pc 4 m.memory ≡ true
unfolding fetch_of
fetch_permitted vlenb m t e = by_test _ _ e
  where
    by_test : (b : Bool) (n : ℕ) → fetched vlenb m (if b then Some n else None) ≡ Ok t → b ≡ true
    by_test true n k = refl
    by_test false n k = absurd (cc)

pub steps_permitted : StepsArePermitted
unfolding step
steps_permitted vlenb m t e = (fetch_permitted vlenb m t e, carried)
  where
    carried : (word : ℕ) (insn : Insn) → fetch_of m.hart.pc m.memory ≡ Some word
        → meaning_of word ≡ Some insn → ArePermitted m.memory (accesses_of_insn vlenb insn m)
    carried word insn fetch meaning =
        let same : carry_out vlenb word m insn ≡ Ok t = rw (fetch, meaning) at e in
        carried_permitted vlenb word m t insn same

-- step j of a run, where there is one
abbrev IsPermittedAt : ℕ → Machine → ℕ → Type 0
IsPermittedAt vlenb m j = (u : Machine) → after vlenb m j ≡ Ok u → IsPermittedStep vlenb u

-- by induction on the steps: `after` takes the last one apart
pub runs_permitted : StepsArePermitted → RunsArePermitted
unfolding after
runs_permitted permit vlenb m t zero e j below = absurd (omega arith)
runs_permitted permit vlenb m t (suc k) e j below =
    by_state (after vlenb m k) refl e (λ w is. runs_permitted permit vlenb m w k is)
  where
    by_state : (r : Result Machine Fault) → after vlenb m k ≡ r → then_step vlenb r ≡ Ok t
        → ((w : Machine) → after vlenb m k ≡ Ok w → (i : ℕ) → i < k → IsPermittedAt vlenb m i)
        → IsPermittedAt vlenb m j
    by_state (Ok w) is next before =
        let last : IsPermittedAt vlenb m k =
        λ u there.
        let same : w ≡ u = cc (is, there) in
        permit vlenb u t (rw same at next) in
        below_more (IsPermittedAt vlenb m) k (before w is) last j (omega arith)
    by_state (Err fault) is next before = absurd (cc)
