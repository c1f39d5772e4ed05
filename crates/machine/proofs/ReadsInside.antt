-- What a step does depends on no byte but those that it fetches and loads.
use Rattle.std.proofs.Common.{◌≡◌, ◌<◌, ◌≤◌, ◌+◌, ℕ, zero, suc, ℤ, Bool, true, false, List, [], ◌∷◌, map, ap, refl, Option, Some, None, Result, Ok, Err, arith}
use Rattle.std.specs.Prelude.{if◌then◌else◌, unwrap_or}
use Rattle.std.specs.List.{AllByRecursion, fold, range_with_len}
use Rattle.rv_decode.specs.Decode.{meaning_of}
use Rattle.rv_decode.specs.declared.instructions.Direction.{Direction}
use Rattle.rv_decode.specs.declared.instructions.Direction.TheVariants as way
use Rattle.rv_decode.specs.declared.instructions.Insn.TheVariants.{Scalar, Csr, VSet, VArith, VMask, VPerm, VReduce, VMem, VMove}
use Rattle.rv_decode.specs.declared.instructions.ScalarInsn.{ScalarInsn}
use Rattle.rv_decode.specs.declared.instructions.ScalarInsn.TheVariants.{Lui, Auipc, Jal, Jalr, Branch, Load, Store, Immediate, ShiftImmediate, Register, Fence, Ecall}
use Rattle.rv_decode.specs.declared.instructions.VMask.TheVariants as mask
use Rattle.rv_decode.specs.declared.instructions.VMask as mask_type
use Rattle.rv_decode.specs.declared.instructions.VMove.TheVariants as move
use Rattle.rv_decode.specs.declared.instructions.VMove as move_type
use Rattle.rv_decode.specs.declared.instructions.VMem as mem
use Rattle.rv_decode.specs.declared.instructions.Width.{Width}
use Rattle.region_mem.specs.KeptCodeLemmas.{permitted_kept}
use Rattle.region_mem.specs.Areas.{byte_at, number_at, number_of}
use Rattle.region_mem.specs.Laws.{extent_of}
use Rattle.region_mem.specs.Memory.{byte_of, fetch_of, is_permitted, load_of, store_of}
use Rattle.region_mem.specs.declared.faults.Right.{Right}
use Rattle.region_mem.specs.declared.faults.Right.TheVariants.{Fetch, Read, Write}
use Rattle.scalar_core.specs.Step.{address_of, beside, load_step, rv32im_step, scalar_step, size_of_load, size_of_store, store_from, store_step}
use Rattle.vreg_groups.specs.Legality.{is_legal}
use Rattle.vreg_groups.specs.VectorType.{type_in, vtype_of}
use Rattle.vector_mem.specs.Accesses.{first_refused, loaded, with_loaded}
use Rattle.vector_mem.specs.Transfers.{accesses_of, right_of, unless_refused, vector_load, vector_store}
use Rattle.vector_mem.specs.declared.plan.Access.{Access}
use Rattle.machine.proofs.WritesInside.{rights}
use Rattle.vector_core.specs.Configuration.{vset_step}
use Rattle.vector_core.specs.LoadsStores.{direction_step, loaded_step, memory_step, stored_step, stride_of}
use Rattle.vector_core.specs.Masks.{mask_step}
use Rattle.vector_core.specs.Moves.{move_step}
use Rattle.vector_core.specs.Permutations.{perm_step}
use Rattle.vector_core.specs.Reductions.{reduce_step}
use Rattle.vector_core.specs.Setup.{setup_of}
use Rattle.vector_core.specs.Step.{arith_step, legal_step, vector_step}
use Rattle.vector_core.specs.Vectors.{Vectors}
use Rattle.vector_core.specs.Words.{Fault, Hart, Illegal, Insn, Memory, Setup, reg_of}
use Rattle.machine.specs.Machine.{Machine}
use Rattle.machine.specs.MachineStep.{carry_out, decoded, fetched, step, with_scalar, with_vector}
use Rattle.machine.specs.Permitted.{accesses_of_insn, accesses_of_scalar}
use Rattle.machine.specs.Touches.{IsAlike, IsReadAlike, without_memory}

-- ---- memory: p and q are two memories whose areas lie alike

module _ (p q : Memory) (same : map extent_of p.areas ≡ map extent_of q.areas) where
  pub permitted_alike : (right : Right) (address n : ℕ) → is_permitted right address n p ≡ is_permitted right address n q
  unfolding is_permitted
  permitted_alike right address n = permitted_kept right address n p.areas q.areas same

  abbrev AreSame : ℕ → ℕ → Type 0
  AreSame from n = (x : ℕ) → from ≤ x → x < from + n → byte_of x p ≡ byte_of x q

  bytes_alike : (from n : ℕ) → AreSame from n
      → map (λ at. unwrap_or (byte_at at p.areas) 0) (range_with_len from n) ≡ map (λ at. unwrap_or (byte_at at q.areas) 0) (range_with_len from n)
  unfolding byte_of
  bytes_alike from zero alike = refl
  bytes_alike from (suc n) alike =
      rw (alike from (omega arith) (omega arith), bytes_alike (from + 1) n (λ x low high. alike x (omega (arith, low)) (omega (arith, high)))) refl

  number_alike : (from n : ℕ) → AreSame from n → number_at from n p.areas ≡ number_at from n q.areas
  unfolding number_at
  number_alike from n alike = ap number_of (bytes_alike from n alike)

  load_alike : (address n : ℕ) → AreSame address n → load_of address n p ≡ load_of address n q
  unfolding load_of
  load_alike address n alike = rw (permitted_alike Read address n, number_alike address n alike) refl

  pub fetch_alike : (pc : ℕ) → AreSame pc 4 → fetch_of pc p ≡ fetch_of pc q
  unfolding fetch_of
  fetch_alike pc alike = rw (permitted_alike Fetch pc 4, number_alike pc 4 alike) refl

  pub refused_alike : (list : List Access) → first_refused list p ≡ first_refused list q
  unfolding first_refused
  refused_alike [] = refl
  refused_alike (a ∷ list) = rw (permitted_alike a.right a.address a.size, refused_alike list) refl

  abbrev AreRead : List Access → Type 0
  AreRead list = AllByRecursion (λ a. a.right ≡ Read) list

  loaded_alike : (list : List Access) (values : List ℕ) → AreRead list → AllByRecursion (IsReadAlike p q) list
      → fold (with_loaded p) values list ≡ fold (with_loaded q) values list
  loaded_alike [] values reads all = refl
  loaded_alike (a ∷ list) values reads all =
      rw (load_alike a.address a.size (all.0 reads.0)) (loaded_alike list _ reads.1 all.1)

-- ---- steps of two machines with the same hart and vectors

module _ (h : Hart) (v : Vectors) (p q : Memory) (same : map extent_of p.areas ≡ map extent_of q.areas) where
  abbrev with_p : Machine
  with_p = record { hart = h; vectors = v; memory = p }

  abbrev with_q : Machine
  with_q = record { hart = h; vectors = v; memory = q }

  beside_alike : (r : Result Hart Fault) → without_memory (with_scalar with_p (beside p r)) ≡ without_memory (with_scalar with_q (beside q r))
  unfolding beside
  beside_alike (Ok hart) = refl
  beside_alike (Err fault) = refl

  store_alike : (size : Width) (rs1 rs2 : ℕ) (offset : ℤ)
      → without_memory (with_scalar with_p (store_step size rs1 rs2 offset h p)) ≡ without_memory (with_scalar with_q (store_step size rs1 rs2 offset h q))
  unfolding store_step store_from store_of
  store_alike size rs1 rs2 offset =
      rw (permitted_alike p q same Write (address_of rs1 offset h) (size_of_store size)) (by_test _ _ _)
    where
      by_test : (b : Bool) (new other : Memory)
          → without_memory (with_scalar with_p (store_from (address_of rs1 offset h) h (if b then Some new else None)))
          ≡ without_memory (with_scalar with_q (store_from (address_of rs1 offset h) h (if b then Some other else None)))
      by_test true new other = refl
      by_test false new other = refl

  scalar_alike : (insn : ScalarInsn) → AllByRecursion (IsReadAlike p q) (accesses_of_scalar insn h)
      → without_memory (with_scalar with_p (rv32im_step insn h p)) ≡ without_memory (with_scalar with_q (rv32im_step insn h q))
  unfolding rv32im_step accesses_of_scalar load_step
  scalar_alike (Lui rd imm) a = refl
  scalar_alike (Auipc rd imm) a = refl
  scalar_alike (Jal rd offset) a = beside_alike _
  scalar_alike (Jalr rd rs1 offset) a = beside_alike _
  scalar_alike (Branch condition rs1 rs2 offset) a = beside_alike _
  scalar_alike (Load kind rd rs1 offset) a =
      rw (load_alike p q same (address_of rs1 offset h) (size_of_load kind) (a.0 refl)) (beside_alike _)
  scalar_alike (Store size rs1 rs2 offset) a = store_alike size rs1 rs2 offset
  scalar_alike (Immediate op rd rs1 imm) a = refl
  scalar_alike (ShiftImmediate op rd rs1 amount) a = refl
  scalar_alike (Register op rd rs1 rs2) a = refl
  scalar_alike Fence a = refl
  scalar_alike Ecall a = refl

  abbrev AreAlike : ℕ → Setup → mem.VMem → Type 0
  AreAlike vlenb s insn =
      AllByRecursion (IsReadAlike p q) (accesses_of vlenb s insn (reg_of insn.rs1 h) (stride_of insn.place h) v.registers)

  load_made_alike : (r : Result (List ℕ) Fault)
      → without_memory (with_vector (loaded_step r h v p)) ≡ without_memory (with_vector (loaded_step r h v q))
  load_made_alike (Ok registers) = refl
  load_made_alike (Err fault) = refl

  store_made_alike : (fault : ℕ → Fault) (refused : Option Access) (new other : Memory)
      → without_memory (with_vector (stored_step (unless_refused fault refused new) h v))
      ≡ without_memory (with_vector (stored_step (unless_refused fault refused other) h v))
  store_made_alike fault None new other = refl
  store_made_alike fault (Some access) new other = refl

  all_read : (vlenb : ℕ) (s : Setup) (insn : mem.VMem) → insn.direction ≡ way.Load
      → AllByRecursion (λ a. a.right ≡ Read) (accesses_of vlenb s insn (reg_of insn.rs1 h) (stride_of insn.place h) v.registers)
  unfolding accesses_of
  all_read vlenb s insn is = rights (right_of insn.direction) Read _ _ _ (ap right_of is)

  vector_load_alike : (vlenb : ℕ) (s : Setup) (insn : mem.VMem) → insn.direction ≡ way.Load → AreAlike vlenb s insn
      → vector_load vlenb s insn (reg_of insn.rs1 h) (stride_of insn.place h) v.registers p
      ≡ vector_load vlenb s insn (reg_of insn.rs1 h) (stride_of insn.place h) v.registers q
  unfolding vector_load loaded
  vector_load_alike vlenb s insn is a =
      rw (refused_alike p q same _, loaded_alike p q same _ _ (all_read vlenb s insn is) a) refl

  access_alike : (vlenb : ℕ) (s : Setup) (d : Direction) (insn : mem.VMem) → insn.direction ≡ d → AreAlike vlenb s insn
      → without_memory (with_vector (direction_step d vlenb s insn h v p)) ≡ without_memory (with_vector (direction_step d vlenb s insn h v q))
  unfolding direction_step vector_store
  access_alike vlenb s way.Load insn is a = rw (vector_load_alike vlenb s insn is a) (load_made_alike _)
  access_alike vlenb s way.Store insn is a = rw (refused_alike p q same _) (store_made_alike _ _ _ _)

  mask_alike : (vlenb : ℕ) (s : Setup) (insn : mask_type.VMask)
      → without_memory (with_vector (mask_step vlenb s insn h v p)) ≡ without_memory (with_vector (mask_step vlenb s insn h v q))
  unfolding mask_step
  mask_alike vlenb s (mask.Logic op vd vs2 vs1) = refl
  mask_alike vlenb s (mask.Count rd vs2 masked) = refl
  mask_alike vlenb s (mask.First rd vs2 masked) = refl
  mask_alike vlenb s (mask.SetFirst op vd vs2 masked) = refl
  mask_alike vlenb s (mask.Iota vd vs2 masked) = refl
  mask_alike vlenb s (mask.Index vd masked) = refl

  move_alike : (vlenb : ℕ) (s : Setup) (insn : move_type.VMove)
      → without_memory (with_vector (move_step vlenb s insn h v p)) ≡ without_memory (with_vector (move_step vlenb s insn h v q))
  unfolding move_step
  move_alike vlenb s (move.ToScalar rd vs2) = refl
  move_alike vlenb s (move.FromScalar vd rs1) = refl
  move_alike vlenb s (move.Whole count vd vs2) = refl

  legal_alike : (vlenb : ℕ) (s : Setup) (insn : Insn) → ((access : mem.VMem) → insn ≡ VMem access → AreAlike vlenb s access)
      → without_memory (with_vector (legal_step vlenb s insn h v p)) ≡ without_memory (with_vector (legal_step vlenb s insn h v q))
  unfolding legal_step vset_step arith_step perm_step reduce_step memory_step
  legal_alike vlenb s (Scalar insn) a = refl
  legal_alike vlenb s (Csr insn) a = refl
  legal_alike vlenb s (VSet insn) a = refl
  legal_alike vlenb s (VArith insn) a = refl
  legal_alike vlenb s (VMask insn) a = mask_alike vlenb s insn
  legal_alike vlenb s (VPerm insn) a = refl
  legal_alike vlenb s (VReduce insn) a = refl
  legal_alike vlenb s (VMove insn) a = move_alike vlenb s insn
  legal_alike vlenb s (VMem insn) a = access_alike vlenb s insn.direction insn refl (a insn refl)

  vector_alike : (vlenb word : ℕ) (insn : Insn)
      → ((access : mem.VMem) → insn ≡ VMem access → AreAlike vlenb (setup_of (type_in (vtype_of v.config.vtype)) v) access)
      → without_memory (with_vector (vector_step vlenb insn word h v p)) ≡ without_memory (with_vector (vector_step vlenb insn word h v q))
  unfolding vector_step
  vector_alike vlenb word insn a = by_test (is_legal v.config insn)
    where
      by_test : (b : Bool)
          → without_memory (with_vector (if b then legal_step vlenb (setup_of (type_in (vtype_of v.config.vtype)) v) insn h v p else Err (Illegal word)))
          ≡ without_memory (with_vector (if b then legal_step vlenb (setup_of (type_in (vtype_of v.config.vtype)) v) insn h v q else Err (Illegal word)))
      by_test true = legal_alike vlenb _ insn a
      by_test false = refl

  carried_alike : (vlenb word : ℕ) (insn : Insn) → AllByRecursion (IsReadAlike p q) (accesses_of_insn vlenb insn with_q)
      → without_memory (carry_out vlenb word with_p insn) ≡ without_memory (carry_out vlenb word with_q insn)
  unfolding carry_out scalar_step accesses_of_insn
  carried_alike vlenb word (Scalar insn) a = scalar_alike insn a
  carried_alike vlenb word (Csr insn) a = refl
  carried_alike vlenb word (VSet insn) a = vector_alike vlenb word (VSet insn) (λ access is. absurd (cc is))
  carried_alike vlenb word (VArith insn) a = vector_alike vlenb word (VArith insn) (λ access is. absurd (cc is))
  carried_alike vlenb word (VMask insn) a = vector_alike vlenb word (VMask insn) (λ access is. absurd (cc is))
  carried_alike vlenb word (VPerm insn) a = vector_alike vlenb word (VPerm insn) (λ access is. absurd (cc is))
  carried_alike vlenb word (VReduce insn) a = vector_alike vlenb word (VReduce insn) (λ access is. absurd (cc is))
  carried_alike vlenb word (VMove insn) a = vector_alike vlenb word (VMove insn) (λ access is. absurd (cc is))
  carried_alike vlenb word (VMem insn) a =
      vector_alike vlenb word (VMem insn) (λ access is. let same_insn : insn ≡ access = cc is in rw (← same_insn) a)

  -- the word is the same, and so is what it means
  abbrev AreReadAt : ℕ → Option ℕ → Type 0
  AreReadAt vlenb found =
      (word : ℕ) (insn : Insn) → found ≡ Some word → meaning_of word ≡ Some insn
      → AllByRecursion (IsReadAlike p q) (accesses_of_insn vlenb insn with_q)

  decoded_alike : (vlenb word : ℕ) (insn : Option Insn)
      → ((i : Insn) → insn ≡ Some i → AllByRecursion (IsReadAlike p q) (accesses_of_insn vlenb i with_q))
      → without_memory (decoded vlenb word with_p insn) ≡ without_memory (decoded vlenb word with_q insn)
  decoded_alike vlenb word None a = refl
  decoded_alike vlenb word (Some insn) a = carried_alike vlenb word insn (a insn refl)

  fetched_alike : (vlenb : ℕ) (found : Option ℕ) → AreReadAt vlenb found
      → without_memory (fetched vlenb with_p found) ≡ without_memory (fetched vlenb with_q found)
  fetched_alike vlenb None a = refl
  fetched_alike vlenb (Some word) a = decoded_alike vlenb word (meaning_of word) (λ insn means. a word insn refl means)

  step_alike : (vlenb : ℕ) → ((x : ℕ) → h.pc ≤ x → x < h.pc + 4 → byte_of x p ≡ byte_of x q) → AreReadAt vlenb (fetch_of h.pc q)
      → without_memory (step vlenb with_p) ≡ without_memory (step vlenb with_q)
  unfolding step
  step_alike vlenb fetch reads =
      rw (fetch_alike p q same h.pc fetch) (fetched_alike vlenb (fetch_of h.pc q) reads)

pub steps_go_alike : (vlenb : ℕ) (m other : Machine) → IsAlike vlenb other m → without_memory (step vlenb other) ≡ without_memory (step vlenb m)
steps_go_alike vlenb m other alike =
    let there : record { hart = m.hart; vectors = m.vectors; memory = other.memory } ≡ other = rw (alike.hart, alike.vectors) refl in
    rw (← there) (step_alike m.hart m.vectors other.memory m.memory alike.extents vlenb alike.fetched alike.read)
