-- What a step writes depends on no byte but those that it fetches and loads.
use Rattle.std.proofs.Common.{◌≡◌, ◌∙◌, ◌⊎◌, inl, inr, ℕ, ◌+◌, ◌<◌, ◌≤◌, Bool, true, false, not, List, [], ◌∷◌, map, ap, refl, sym, Option, Some, None, Ok, Err, slice_index}
use Rattle.std.specs.Prelude.{if◌then◌else◌, unwrap_or, find}
use Rattle.std.specs.List.{AllByRecursion}
use Rattle.rv_decode.specs.Decode.{meaning_of}
use Rattle.rv_decode.specs.declared.instructions.Direction.{Direction}
use Rattle.rv_decode.specs.declared.instructions.Direction.TheVariants as way
use Rattle.rv_decode.specs.declared.instructions.Insn.TheVariants.{Scalar, Csr, VSet, VArith, VMask, VPerm, VReduce, VMem, VMove}
use Rattle.rv_decode.specs.declared.instructions.ScalarInsn.{ScalarInsn}
use Rattle.rv_decode.specs.declared.instructions.ScalarInsn.TheVariants.{Lui, Auipc, Jal, Jalr, Branch, Load, Store, Immediate, ShiftImmediate, Register, Fence, Ecall}
use Rattle.rv_decode.specs.declared.instructions.VMem as mem
use Rattle.region_mem.specs.Areas.{with_number}
use Rattle.region_mem.specs.Laws.{StoresKeepExtents, extent_of}
use Rattle.region_mem.specs.Memory.{byte_of, fetch_of, is_permitted, store_of}
use Rattle.machine.proofs.WrittenBytes.{IsInAccess, stores_write_alike}
use Rattle.region_mem.specs.declared.faults.Right.TheVariants.{Read, Write}
use Rattle.scalar_core.specs.Step.{address_of, rv32im_step, scalar_step, size_of_store, store_from, store_step}
use Rattle.vreg_groups.specs.Legality.{is_legal}
use Rattle.vreg_groups.specs.VectorType.{type_in, vtype_of}
use Rattle.vector_mem.specs.Accesses.{first_refused, is_refused, stored, with_stored}
use Rattle.vector_mem.specs.Transfers.{accesses_of, right_of, unless_refused, vector_store}
use Rattle.vector_mem.specs.declared.plan.Access.{Access}
use Rattle.machine.proofs.ReadsInside.{fetch_alike, refused_alike, steps_go_alike}
use Rattle.machine.proofs.WritesInside.{rights}
use Rattle.vector_core.specs.LoadsStores.{direction_step, memory_step, stored_step, stride_of}
use Rattle.vector_core.specs.Setup.{setup_of}
use Rattle.vector_core.specs.Step.{legal_step, vector_step}
use Rattle.vector_core.specs.Vectors.{Vectors}
use Rattle.vector_core.specs.Words.{Fault, Hart, Illegal, Insn, Memory, Setup, reg_of}
use Rattle.machine.specs.Machine.{Machine}
use Rattle.machine.specs.MachineStep.{carry_out, step, with_scalar, with_vector}
use Rattle.machine.specs.Permitted.{accesses_of_insn, accesses_of_scalar}
use Rattle.machine.specs.Touches.{IsWrittenAlike, StepsReadInside}

-- ---- a list of stores

abbrev AreWritten : Memory → Memory → List Access → Type 0
AreWritten next last list = AllByRecursion (IsWrittenAlike next last) list

abbrev AreOf : List Access → Type 0
AreOf list = AllByRecursion (λ a. a.right ≡ Write) list

-- accesses that read write nothing
reads_alone : (next last : Memory) (list : List Access) → AllByRecursion (λ a. a.right ≡ Read) list → AreWritten next last list
reads_alone next last [] reads = tt
reads_alone next last (a ∷ list) reads = ((λ is x low high. absurd (cc (reads.0, is))), reads_alone next last list reads.1)

-- One of the accesses has the address.
abbrev IsCovered : ℕ → List Access → Type 0
IsCovered x [] = ⊥
IsCovered x (a ∷ list) = IsInAccess x a.address a.size ⊎ IsCovered x list

each_written : (next last : Memory) (list : List Access) → ((x : ℕ) → IsCovered x list → byte_of x next ≡ byte_of x last)
    → AreWritten next last list
each_written next last [] covered = tt
each_written next last (a ∷ list) covered =
    ((λ right x low high. covered x (inl (low, high))), each_written next last list (λ x c. covered x (inr c)))

store_there : (address n value : ℕ) (memory : Memory) → is_permitted Write address n memory ≡ true
    → (next : Memory) × (store_of address n value memory ≡ Some next)
unfolding store_of
store_there address n value memory is = (record memory { areas = with_number address n value memory.areas }, rw is refl)

-- what an access that is not refused leaves
record Leaves (values : List ℕ) (m : Memory) (a : Access) (list : List Access) : Type 0 where
  next : Memory
  stores : store_of a.address a.size (slice_index values a.element) m ≡ Some next
  is : with_stored values m a ≡ next
  rest : first_refused list m ≡ None

leaves : (values : List ℕ) (m : Memory) (a : Access) (list : List Access) → a.right ≡ Write → first_refused (a ∷ list) m ≡ None
    → Leaves values m a list
unfolding first_refused
leaves values m a list right none = by_test (is_permitted a.right a.address a.size m) refl none
  where
    by_test : (b : Bool) → is_permitted a.right a.address a.size m ≡ b
        → (if not b then Some a else find (is_refused m) list) ≡ None → Leaves values m a list
    by_test false is e = absurd (cc e)
    by_test true is e =
        let may : is_permitted Write a.address a.size m ≡ true = rw (← right) is in
        let there = store_there a.address a.size (slice_index values a.element) m may in
        record { next = there.0; stores = there.1; is = ap (λ (o : Option Memory). unwrap_or o m) there.1; rest = e }

module _ (extents : StoresKeepExtents) where
  list_alike : (x : ℕ) (list : List Access) (values : List ℕ) (p q : Memory) → map extent_of p.areas ≡ map extent_of q.areas
      → AreOf list → first_refused list p ≡ None → first_refused list q ≡ None → IsCovered x list ⊎ (byte_of x p ≡ byte_of x q)
      → byte_of x (stored list values p) ≡ byte_of x (stored list values q)
  unfolding stored
  list_alike x [] values p q same writes none nothing (inl covered) = absurd covered
  list_alike x [] values p q same writes none nothing (inr before) = before
  list_alike x (a ∷ list) values p q same writes none nothing here =
      let first = leaves values p a list writes.0 none in
      let second = leaves values q a list writes.0 nothing in
      let value = slice_index values a.element in
      let p_kept : map extent_of first.next.areas ≡ map extent_of p.areas = (extents a.address a.size value p first.next first.stores).0 in
      let q_kept : map extent_of second.next.areas ≡ map extent_of q.areas = (extents a.address a.size value q second.next second.stores).0 in
      let byte = λ (c : IsInAccess x a.address a.size ⊎ (byte_of x p ≡ byte_of x q)).
      stores_write_alike a.address a.size value x p q first.next second.next same first.stores second.stores c in
      let further : IsCovered x list ⊎ (byte_of x first.next ≡ byte_of x second.next) =
      elim here [
        | inl covered ↦ elim covered [ inl at ↦ inr (byte (inl at)) | inr later ↦ inl later ]
        | inr before ↦ inr (byte (inr before))
      ] in
      rw (first.is, second.is)
      (list_alike x list values first.next second.next (p_kept ∙ (same ∙ sym q_kept)) writes.1
      (refused_alike first.next p p_kept list ∙ first.rest) (refused_alike second.next q q_kept list ∙ second.rest) further)

  stores_alike : (list : List Access) (values : List ℕ) (p q : Memory) → map extent_of p.areas ≡ map extent_of q.areas
      → AreOf list → first_refused list p ≡ None → first_refused list q ≡ None → AreWritten (stored list values p) (stored list values q) list
  stores_alike list values p q same writes none nothing =
      each_written _ _ list (λ x covered. list_alike x list values p q same writes none nothing (inl covered))

  -- ---- steps of two machines with the same hart and vectors

  module _ (h : Hart) (v : Vectors) (p q : Memory) (same : map extent_of p.areas ≡ map extent_of q.areas) (t u : Machine) where
    abbrev with_p : Machine
    with_p = record { hart = h; vectors = v; memory = p }

    abbrev with_q : Machine
    with_q = record { hart = h; vectors = v; memory = q }

    scalar_stored : (address n value : ℕ) (o r : Option Memory) → store_of address n value q ≡ o → store_of address n value p ≡ r
        → with_scalar with_q (store_from address h o) ≡ Ok t → with_scalar with_p (store_from address h r) ≡ Ok u
        → (x : ℕ) → address ≤ x → x < address + n → byte_of x u.memory ≡ byte_of x t.memory
    unfolding store_from
    scalar_stored address n value None r o_is r_is e f x low high = absurd (cc e)
    scalar_stored address n value (Some a) None o_is r_is e f x low high = absurd (cc f)
    scalar_stored address n value (Some a) (Some b) o_is r_is e f x low high =
        let left : a ≡ t.memory = cc e in
        let right : b ≡ u.memory = cc f in
        rw (← left, ← right) (stores_write_alike address n value x p q b a same r_is o_is (inl (low, high)))

    scalar_written : (insn : ScalarInsn) → with_scalar with_q (rv32im_step insn h q) ≡ Ok t → with_scalar with_p (rv32im_step insn h p) ≡ Ok u
        → AreWritten u.memory t.memory (accesses_of_scalar insn h)
    unfolding rv32im_step accesses_of_scalar store_step
    scalar_written (Lui rd imm) e f = tt
    scalar_written (Auipc rd imm) e f = tt
    scalar_written (Jal rd offset) e f = tt
    scalar_written (Jalr rd rs1 offset) e f = tt
    scalar_written (Branch condition rs1 rs2 offset) e f = tt
    scalar_written (Load kind rd rs1 offset) e f = ((λ is x low high. absurd (cc is)), tt)
    scalar_written (Store size rs1 rs2 offset) e f =
        ((λ is x low high. scalar_stored (address_of rs1 offset h) (size_of_store size) (reg_of rs2 h) _ _ refl refl e f x low high), tt)
    scalar_written (Immediate op rd rs1 imm) e f = tt
    scalar_written (ShiftImmediate op rd rs1 amount) e f = tt
    scalar_written (Register op rd rs1 rs2) e f = tt
    scalar_written Fence e f = tt
    scalar_written Ecall e f = tt

    vector_stored : (fault : ℕ → Fault) (list : List Access) (values : List ℕ) (o r : Option Access) → first_refused list q ≡ o
        → first_refused list p ≡ r → AreOf list
        → with_vector (stored_step (unless_refused fault o (stored list values q)) h v) ≡ Ok t
        → with_vector (stored_step (unless_refused fault r (stored list values p)) h v) ≡ Ok u → AreWritten u.memory t.memory list
    vector_stored fault list values (Some a) r o_is r_is writes e f = absurd (cc e)
    vector_stored fault list values None (Some b) o_is r_is writes e f = absurd (cc f)
    vector_stored fault list values None None o_is r_is writes e f =
        let left : stored list values q ≡ t.memory = cc e in
        let right : stored list values p ≡ u.memory = cc f in
        rw (← left, ← right) (stores_alike list values p q same writes r_is o_is)

    access_written : (vlenb : ℕ) (s : Setup) (d : Direction) (insn : mem.VMem) → insn.direction ≡ d
        → with_vector (direction_step d vlenb s insn h v q) ≡ Ok t → with_vector (direction_step d vlenb s insn h v p) ≡ Ok u
        → AreWritten u.memory t.memory (accesses_of vlenb s insn (reg_of insn.rs1 h) (stride_of insn.place h) v.registers)
    unfolding direction_step vector_store accesses_of
    access_written vlenb s way.Load insn is e f =
        reads_alone u.memory t.memory _ (rights (right_of insn.direction) Read _ _ _ (ap right_of is))
    access_written vlenb s way.Store insn is e f =
        vector_stored _ _ _ _ _ refl refl (rights (right_of insn.direction) Write _ _ _ (ap right_of is)) e f

    vector_written : (vlenb word : ℕ) (insn : mem.VMem)
        → with_vector (vector_step vlenb (VMem insn) word h v q) ≡ Ok t → with_vector (vector_step vlenb (VMem insn) word h v p) ≡ Ok u
        → AreWritten u.memory t.memory
        (accesses_of vlenb (setup_of (type_in (vtype_of v.config.vtype)) v) insn (reg_of insn.rs1 h) (stride_of insn.place h) v.registers)
    unfolding vector_step legal_step memory_step
    vector_written vlenb word insn e f = by_test (is_legal v.config (VMem insn)) e f
      where
        by_test : (b : Bool)
            → with_vector (if b then legal_step vlenb (setup_of (type_in (vtype_of v.config.vtype)) v) (VMem insn) h v q else Err (Illegal word)) ≡ Ok t
            → with_vector (if b then legal_step vlenb (setup_of (type_in (vtype_of v.config.vtype)) v) (VMem insn) h v p else Err (Illegal word)) ≡ Ok u
            → AreWritten u.memory t.memory
            (accesses_of vlenb (setup_of (type_in (vtype_of v.config.vtype)) v) insn (reg_of insn.rs1 h) (stride_of insn.place h) v.registers)
        by_test true k l = access_written vlenb _ insn.direction insn refl k l
        by_test false k l = absurd (cc k)

    carried_written : (vlenb word : ℕ) (insn : Insn) → carry_out vlenb word with_q insn ≡ Ok t → carry_out vlenb word with_p insn ≡ Ok u
        → AreWritten u.memory t.memory (accesses_of_insn vlenb insn with_q)
    unfolding carry_out scalar_step accesses_of_insn
    carried_written vlenb word (Scalar insn) e f = scalar_written insn e f
    carried_written vlenb word (Csr insn) e f = tt
    carried_written vlenb word (VSet insn) e f = tt
    carried_written vlenb word (VArith insn) e f = tt
    carried_written vlenb word (VMask insn) e f = tt
    carried_written vlenb word (VPerm insn) e f = tt
    carried_written vlenb word (VReduce insn) e f = tt
    carried_written vlenb word (VMove insn) e f = tt
    carried_written vlenb word (VMem insn) e f = vector_written vlenb word insn e f

    step_written : (vlenb word : ℕ) (insn : Insn) → fetch_of h.pc p ≡ fetch_of h.pc q → step vlenb with_q ≡ Ok t → step vlenb with_p ≡ Ok u
        → fetch_of h.pc q ≡ Some word → meaning_of word ≡ Some insn → AreWritten u.memory t.memory (accesses_of_insn vlenb insn with_q)
    unfolding step
    step_written vlenb word insn fetch e f found means =
        let there : fetch_of h.pc p ≡ Some word = fetch ∙ found in
        let left : carry_out vlenb word with_q insn ≡ Ok t = rw (found, means) at e in
        let right : carry_out vlenb word with_p insn ≡ Ok u = rw (there, means) at f in
        carried_written vlenb word insn left right

  pub steps_read_inside : StepsReadInside
  steps_read_inside vlenb m other is =
      let there : record { hart = m.hart; vectors = m.vectors; memory = other.memory } ≡ other = rw (is.hart, is.vectors) refl in (
        steps_go_alike vlenb m other is,
        λ word insn t u e f found means.
            step_written m.hart m.vectors other.memory m.memory is.extents t u vlenb word insn
            (fetch_alike other.memory m.memory is.extents m.hart.pc is.fetched) e (rw there f) found means,
      )
