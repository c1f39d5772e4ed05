-- Only stores change memory: what holds of memory as it is, and of what the stores of an instruction leave, holds of memory
-- after its step.
use Rattle.std.proofs.Common.{◌≡◌, ℕ, ℤ, Bool, true, false, List, [], ◌∷◌, refl, Option, Some, None, Result, Ok, Err, slice_index}
use Rattle.std.specs.Prelude.{if◌then◌else◌, unwrap_or}
use Rattle.rv_decode.specs.declared.instructions.Direction.{Direction}
use Rattle.rv_decode.specs.declared.instructions.Direction.TheVariants as way
use Rattle.rv_decode.specs.declared.instructions.Insn.TheVariants.{Scalar, Csr, VSet, VArith, VMask, VPerm, VReduce, VMem, VMove}
use Rattle.rv_decode.specs.declared.instructions.ScalarInsn.{ScalarInsn}
use Rattle.rv_decode.specs.declared.instructions.ScalarInsn.TheVariants.{Lui, Auipc, Jal, Jalr, Branch, Load, Store, Immediate, ShiftImmediate, Register, Fence, Ecall}
use Rattle.rv_decode.specs.declared.instructions.VMask.TheVariants as mask
use Rattle.rv_decode.specs.declared.instructions.VMask as mask_type
use Rattle.rv_decode.specs.declared.instructions.VMove.TheVariants as move
use Rattle.rv_decode.specs.declared.instructions.VMove as move_type
use Rattle.rv_decode.specs.declared.instructions.VMem as mem
use Rattle.rv_decode.specs.declared.instructions.Width.{Width}
use Rattle.region_mem.specs.Memory.{store_of}
use Rattle.scalar_core.specs.Step.{address_of, beside, rv32im_step, scalar_step, size_of_store, store_from, store_step}
use Rattle.vreg_groups.specs.Legality.{is_legal}
use Rattle.vreg_groups.specs.VectorType.{type_in, vtype_of}
use Rattle.vector_mem.specs.Accesses.{stored, with_stored}
use Rattle.vector_mem.specs.Transfers.{accesses_of, unless_refused, vector_store}
use Rattle.vector_mem.specs.declared.plan.Access.{Access}
use Rattle.vector_core.specs.Configuration.{vset_step}
use Rattle.vector_core.specs.LoadsStores.{direction_step, loaded_step, memory_step, stored_step, stride_of}
use Rattle.vector_core.specs.Masks.{mask_step}
use Rattle.vector_core.specs.Moves.{move_step}
use Rattle.vector_core.specs.Permutations.{perm_step}
use Rattle.vector_core.specs.Reductions.{reduce_step}
use Rattle.vector_core.specs.Setup.{setup_of}
use Rattle.vector_core.specs.Step.{arith_step, legal_step, vector_step}
use Rattle.vector_core.specs.Vectors.{Vectors}
use Rattle.vector_core.specs.Words.{Fault, Hart, Illegal, Insn, Memory, Setup, reg_of}
use Rattle.machine.specs.Machine.{Machine}
use Rattle.machine.specs.MachineStep.{carry_out, with_scalar, with_vector}

-- It holds of what the store of a scalar instruction leaves.
abbrev pub AfterScalarStore : (Memory → Type 0) → Machine → Insn → Type 0
AfterScalarStore P m insn =
    (size : Width) (rs1 rs2 : ℕ) (offset : ℤ) (next : Memory) → insn ≡ Scalar (Store size rs1 rs2 offset)
    → store_of (address_of rs1 offset m.hart) (size_of_store size) (reg_of rs2 m.hart) m.memory ≡ Some next → P next

-- It holds of what the stores of a vector instruction leave.
abbrev pub AfterVectorStores : (Memory → Type 0) → ℕ → Machine → Insn → Type 0
AfterVectorStores P vlenb m insn =
    (access : mem.VMem) (values : List ℕ) → insn ≡ VMem access → access.direction ≡ way.Store
    → P (stored (accesses_of vlenb (setup_of (type_in (vtype_of m.vectors.config.vtype)) m.vectors) access
    (reg_of access.rs1 m.hart) (stride_of access.place m.hart) m.vectors.registers) values m.memory)

-- What relates a memory to itself and to what a store leaves, and goes on from memory to memory, relates it to what the
-- stores of a vector instruction leave.
module _ (K : Memory → Memory → Type 0) (same : (m : Memory) → K m m) (twice : (m next last : Memory) → K m next → K next last → K m last)
    (one : (address n value : ℕ) (m next : Memory) → store_of address n value m ≡ Some next → K m next) where
  one_kept : (values : List ℕ) (m : Memory) (a : Access) → K m (with_stored values m a)
  one_kept values m a = by_store (store_of a.address a.size (slice_index values a.element) m) refl
    where
      by_store : (o : Option Memory) → store_of a.address a.size (slice_index values a.element) m ≡ o → K m (unwrap_or o m)
      by_store None e = same m
      by_store (Some next) e = one a.address a.size (slice_index values a.element) m next e

  pub list_kept : (list : List Access) (values : List ℕ) (m : Memory) → K m (stored list values m)
  unfolding stored
  list_kept [] values m = same m
  list_kept (a ∷ list) values m =
      twice m (with_stored values m a) (stored list values (with_stored values m a)) (one_kept values m a)
      (list_kept list values (with_stored values m a))

module _ (P : Memory → Type 0) (m t : Machine) (same : P m.memory) where
  -- a scalar step that leaves memory as it is, and a vector step
  here : (h : Hart) → with_scalar m (Ok (h, m.memory)) ≡ Ok t → P t.memory
  here h e = let is : m.memory ≡ t.memory = cc e in rw (← is) same

  still : (h : Hart) (v : Vectors) → with_vector (Ok (h, v, m.memory)) ≡ Ok t → P t.memory
  still h v e = let is : m.memory ≡ t.memory = cc e in rw (← is) same

  beside_kept : (r : Result Hart Fault) → with_scalar m (beside m.memory r) ≡ Ok t → P t.memory
  unfolding beside
  beside_kept (Ok h) e = here h e
  beside_kept (Err fault) e = absurd (cc e)

  store_kept : (address : ℕ) (stored : Option Memory) → ((next : Memory) → stored ≡ Some next → P next)
      → with_scalar m (store_from address m.hart stored) ≡ Ok t → P t.memory
  unfolding store_from
  store_kept address None after e = absurd (cc e)
  store_kept address (Some next) after e = let there : next ≡ t.memory = cc e in rw (← there) (after next refl)

  scalar_kept : (insn : ScalarInsn) → AfterScalarStore P m (Scalar insn) → with_scalar m (rv32im_step insn m.hart m.memory) ≡ Ok t
      → P t.memory
  unfolding rv32im_step store_step
  scalar_kept (Lui rd imm) after e = here _ e
  scalar_kept (Auipc rd imm) after e = here _ e
  scalar_kept (Jal rd offset) after e = beside_kept _ e
  scalar_kept (Jalr rd rs1 offset) after e = beside_kept _ e
  scalar_kept (Branch condition rs1 rs2 offset) after e = beside_kept _ e
  scalar_kept (Load kind rd rs1 offset) after e = beside_kept _ e
  scalar_kept (Store size rs1 rs2 offset) after e = store_kept _ _ (λ next is. after size rs1 rs2 offset next refl is) e
  scalar_kept (Immediate op rd rs1 imm) after e = here _ e
  scalar_kept (ShiftImmediate op rd rs1 amount) after e = here _ e
  scalar_kept (Register op rd rs1 rs2) after e = here _ e
  scalar_kept Fence after e = here _ e
  scalar_kept Ecall after e = here _ e

  loaded_kept : (r : Result (List ℕ) Fault) (h : Hart) (v : Vectors) → with_vector (loaded_step r h v m.memory) ≡ Ok t → P t.memory
  loaded_kept (Ok registers) h v e = still _ _ e
  loaded_kept (Err fault) h v e = absurd (cc e)

  stored_kept : (refused : Option Access) (fault : ℕ → Fault) (next : Memory) (h : Hart) (v : Vectors) → P next
      → with_vector (stored_step (unless_refused fault refused next) h v) ≡ Ok t → P t.memory
  stored_kept None fault next h v after e = let there : next ≡ t.memory = cc e in rw (← there) after
  stored_kept (Some a) fault next h v after e = absurd (cc e)

  mask_kept : (vlenb : ℕ) (s : Setup) (insn : mask_type.VMask) (h : Hart) (v : Vectors)
      → with_vector (mask_step vlenb s insn h v m.memory) ≡ Ok t → P t.memory
  unfolding mask_step
  mask_kept vlenb s (mask.Logic op vd vs2 vs1) h v e = still _ _ e
  mask_kept vlenb s (mask.Count rd vs2 masked) h v e = still _ _ e
  mask_kept vlenb s (mask.First rd vs2 masked) h v e = still _ _ e
  mask_kept vlenb s (mask.SetFirst op vd vs2 masked) h v e = still _ _ e
  mask_kept vlenb s (mask.Iota vd vs2 masked) h v e = still _ _ e
  mask_kept vlenb s (mask.Index vd masked) h v e = still _ _ e

  move_kept : (vlenb : ℕ) (s : Setup) (insn : move_type.VMove) (h : Hart) (v : Vectors)
      → with_vector (move_step vlenb s insn h v m.memory) ≡ Ok t → P t.memory
  unfolding move_step
  move_kept vlenb s (move.ToScalar rd vs2) h v e = still _ _ e
  move_kept vlenb s (move.FromScalar vd rs1) h v e = still _ _ e
  move_kept vlenb s (move.Whole count vd vs2) h v e = still _ _ e

  access_kept : (vlenb : ℕ) (s : Setup) (d : Direction) (insn : mem.VMem) (h : Hart) (v : Vectors)
      → ((values : List ℕ) → d ≡ way.Store
      → P (stored (accesses_of vlenb s insn (reg_of insn.rs1 h) (stride_of insn.place h) v.registers) values m.memory))
      → with_vector (direction_step d vlenb s insn h v m.memory) ≡ Ok t → P t.memory
  unfolding direction_step vector_store
  access_kept vlenb s way.Load insn h v after e = loaded_kept _ h v e
  access_kept vlenb s way.Store insn h v after e = stored_kept _ _ _ h v (after _ refl) e

  legal_kept : (vlenb : ℕ) (insn : Insn) → AfterVectorStores P vlenb m insn
      → with_vector (legal_step vlenb (setup_of (type_in (vtype_of m.vectors.config.vtype)) m.vectors) insn m.hart m.vectors m.memory)
      ≡ Ok t → P t.memory
  unfolding legal_step vset_step arith_step perm_step reduce_step memory_step
  legal_kept vlenb (Scalar insn) after e = still _ _ e
  legal_kept vlenb (Csr insn) after e = still _ _ e
  legal_kept vlenb (VSet insn) after e = still _ _ e
  legal_kept vlenb (VArith insn) after e = still _ _ e
  legal_kept vlenb (VMask insn) after e = mask_kept vlenb _ insn _ _ e
  legal_kept vlenb (VPerm insn) after e = still _ _ e
  legal_kept vlenb (VReduce insn) after e = still _ _ e
  legal_kept vlenb (VMove insn) after e = move_kept vlenb _ insn _ _ e
  legal_kept vlenb (VMem insn) after e = access_kept vlenb _ insn.direction insn _ _ (λ values is. after insn values refl is) e

  vector_kept : (vlenb word : ℕ) (insn : Insn) → AfterVectorStores P vlenb m insn
      → with_vector (vector_step vlenb insn word m.hart m.vectors m.memory) ≡ Ok t → P t.memory
  unfolding vector_step
  vector_kept vlenb word insn after e = by_test (is_legal m.vectors.config insn) e
    where
      by_test : (b : Bool)
          → with_vector (if b
          then legal_step vlenb (setup_of (type_in (vtype_of m.vectors.config.vtype)) m.vectors) insn m.hart m.vectors m.memory
          else Err (Illegal word)) ≡ Ok t
          → P t.memory
      by_test true k = legal_kept vlenb insn after k
      by_test false k = absurd (cc k)

  pub carried_kept : (vlenb word : ℕ) (insn : Insn) → AfterScalarStore P m insn → AfterVectorStores P vlenb m insn
      → carry_out vlenb word m insn ≡ Ok t → P t.memory
  unfolding carry_out scalar_step
  carried_kept vlenb word (Scalar insn) scalar vector e = scalar_kept insn scalar e
  carried_kept vlenb word (Csr insn) scalar vector e = here _ e
  carried_kept vlenb word (VSet insn) scalar vector e = vector_kept vlenb word (VSet insn) vector e
  carried_kept vlenb word (VArith insn) scalar vector e = vector_kept vlenb word (VArith insn) vector e
  carried_kept vlenb word (VMask insn) scalar vector e = vector_kept vlenb word (VMask insn) vector e
  carried_kept vlenb word (VPerm insn) scalar vector e = vector_kept vlenb word (VPerm insn) vector e
  carried_kept vlenb word (VReduce insn) scalar vector e = vector_kept vlenb word (VReduce insn) vector e
  carried_kept vlenb word (VMove insn) scalar vector e = vector_kept vlenb word (VMove insn) vector e
  carried_kept vlenb word (VMem insn) scalar vector e = vector_kept vlenb word (VMem insn) vector e
