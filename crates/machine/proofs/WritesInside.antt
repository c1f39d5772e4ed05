-- A step changes no byte outside the accesses that it makes to write.
use Rattle.std.proofs.Common.{◌≡◌, ◌∙◌, ℕ, Bool, List, [], ◌∷◌, map, ◌<◌, ◌≤◌, ◌+◌, ◌⊎◌, ap, refl, Option, Some, None, Ok, slice_index}
use Rattle.std.specs.Prelude.{unwrap_or}
use Rattle.rv_decode.specs.declared.instructions.Insn.TheVariants.{Scalar, VMem}
use Rattle.rv_decode.specs.declared.instructions.ScalarInsn.TheVariants.{Store}
use Rattle.region_mem.specs.declared.faults.Right.TheVariants.{Write}
use Rattle.region_mem.specs.KeptCodeLemmas.{number_kept, stored_is}
use Rattle.region_mem.specs.Memory.{byte_of, store_of}
use Rattle.vector_mem.specs.Accesses.{stored, with_stored}
use Rattle.vector_mem.specs.Transfers.{accesses_of, right_of}
use Rattle.vector_mem.specs.declared.plan.Access.{Access}
use Rattle.std.specs.List.{AllByRecursion}
use Rattle.region_mem.specs.declared.faults.Right.{Right}
use Rattle.vector_mem.specs.Accesses.{accesses, access_at}
use Rattle.vector_core.specs.Words.{Insn, Memory}
use Rattle.machine.specs.Touches.{IsNotWritten, StepsWriteInside}
use Rattle.machine.specs.Permitted.{accesses_of_insn, accesses_of_scalar}
use Rattle.machine.specs.Machine.{Machine}
use Rattle.machine.specs.MachineStep.{carry_out, step}
use Rattle.machine.specs.StoreLemmas.{AfterScalarStore, AfterVectorStores, carried_kept}

store_keeps_outside : (address n value x : ℕ) (memory stored : Memory) → store_of address n value memory ≡ Some stored
    → (x < address) ⊎ (address + n ≤ x) → byte_of x stored ≡ byte_of x memory
unfolding byte_of
store_keeps_outside address n value x memory stored e outside =
    rw (← (stored_is address n value memory stored e).1) (number_kept x address n value memory.areas outside)

one_kept : (x : ℕ) (values : List ℕ) (m : Memory) (a : Access) → a.right ≡ Write → IsNotWritten x a
    → byte_of x (with_stored values m a) ≡ byte_of x m
one_kept x values m a right apart = by_store (store_of a.address a.size (slice_index values a.element) m) refl
  where
    by_store : (o : Option Memory) → store_of a.address a.size (slice_index values a.element) m ≡ o → byte_of x (unwrap_or o m) ≡ byte_of x m
    by_store None e = refl
    by_store (Some next) e = store_keeps_outside a.address a.size (slice_index values a.element) x m next e (apart right)

list_kept : (x : ℕ) (list : List Access) (values : List ℕ) (m : Memory) → AllByRecursion (λ a. a.right ≡ Write) list
    → AllByRecursion (IsNotWritten x) list → byte_of x (stored list values m) ≡ byte_of x m
unfolding stored
list_kept x [] values m rights apart = refl
list_kept x (a ∷ list) values m rights apart =
    list_kept x list values (with_stored values m a) rights.1 apart.1 ∙ one_kept x values m a rights.0 apart.0

rights_at : (r w : Right) (size : ℕ) (place : ℕ → ℕ) (l : List ℕ) → r ≡ w
    → AllByRecursion (λ a. a.right ≡ w) (map (access_at r size place) l)
rights_at r w size place [] e = tt
rights_at r w size place (i ∷ l) e = (e, rights_at r w size place l e)

pub rights : (r w : Right) (size : ℕ) (place : ℕ → ℕ) (active : List Bool) → r ≡ w
    → AllByRecursion (λ a. a.right ≡ w) (accesses r size place active)
unfolding accesses
rights r w size place active e = rights_at r w size place _ e

-- what an instruction's accesses do not write stays over its stores
scalar_outside : (vlenb x : ℕ) (m : Machine) (insn : Insn) → AllByRecursion (IsNotWritten x) (accesses_of_insn vlenb insn m)
    → AfterScalarStore (λ next. byte_of x next ≡ byte_of x m.memory) m insn
unfolding accesses_of_insn accesses_of_scalar
scalar_outside vlenb x m insn a size rs1 rs2 offset next is e =
    let apart : AllByRecursion (IsNotWritten x) (accesses_of_insn vlenb (Scalar (Store size rs1 rs2 offset)) m) = rw is at a in
    store_keeps_outside _ _ _ x m.memory next e (apart.0 refl)

vector_outside : (vlenb x : ℕ) (m : Machine) (insn : Insn) → AllByRecursion (IsNotWritten x) (accesses_of_insn vlenb insn m)
    → AfterVectorStores (λ next. byte_of x next ≡ byte_of x m.memory) vlenb m insn
unfolding accesses_of_insn accesses_of
vector_outside vlenb x m insn a access values is stores =
    let apart : AllByRecursion (IsNotWritten x) (accesses_of_insn vlenb (VMem access) m) = rw is at a in
    list_kept x _ values m.memory (rights (right_of access.direction) Write _ _ _ (ap right_of stores)) apart

pub steps_write_inside : StepsWriteInside
unfolding step
steps_write_inside vlenb m word x insn t e fetch meaning a =
    let same : carry_out vlenb word m insn ≡ Ok t = rw (fetch, meaning) at e in
    carried_kept (λ next. byte_of x next ≡ byte_of x m.memory) m t refl vlenb word insn
    (scalar_outside vlenb x m insn a) (vector_outside vlenb x m insn a) same
