-- What a step may touch by its own memory it may touch by the areas of the start.
use Rattle.std.proofs.Common.{◌≡◌, ◌∙◌, ℕ, true, List, [], ◌∷◌, sym}
use Rattle.region_mem.specs.KeptCodeLemmas.{permitted_kept}
use Rattle.region_mem.specs.Laws.{HasExtentsOf}
use Rattle.region_mem.specs.Memory.{Memory, is_permitted}
use Rattle.region_mem.specs.declared.faults.Right.{Right}
use Rattle.region_mem.specs.declared.faults.Right.TheVariants.{Fetch}
use Rattle.machine.specs.Machine.{Machine}
use Rattle.machine.specs.Permitted.{ArePermitted, IsPermittedIn, IsPermittedStep}
use Rattle.vector_mem.specs.declared.plan.Access.{Access}

permitted_alike : (right : Right) (address n : ℕ) (memory next : Memory) → HasExtentsOf next memory
    → is_permitted right address n next ≡ true → is_permitted right address n memory ≡ true
unfolding is_permitted
permitted_alike right address n memory next same e = sym (permitted_kept right address n next.areas memory.areas same.0) ∙ e

all_permitted : (memory next : Memory) (list : List Access) → HasExtentsOf next memory → ArePermitted next list → ArePermitted memory list
all_permitted memory next [] same all = tt
all_permitted memory next (a ∷ list) same all =
    (permitted_alike a.right a.address a.size memory next same all.0, all_permitted memory next list same all.1)

-- what is permitted is so by the areas of any memory that has the same
pub permitted_in : (vlenb : ℕ) (memory : Memory) (m : Machine) → HasExtentsOf m.memory memory → IsPermittedStep vlenb m
    → IsPermittedIn memory vlenb m
permitted_in vlenb memory m same (fetch, carried) = (
  permitted_alike Fetch m.hart.pc 4 memory m.memory same fetch,
  λ word insn is means. all_permitted memory m.memory _ same (carried word insn is means),
)
