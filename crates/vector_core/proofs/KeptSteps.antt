-- What the steps of vector instructions keep, by their classes.
use Rattle.std.proofs.Common.{◌≡◌, ◌<◌, ℕ, Bool, true, false, List, refl, ap, subst, Option, Some, None, Ok, Err}
use Rattle.std.specs.Prelude.{if◌then◌else◌, ◌&&◌, ◌==◌}
use Rattle.rv_decode.specs.Encodings.{FieldsFit}
use Rattle.rv_decode.specs.EncodeAccess.{AccessFits}
use Rattle.rv_decode.specs.EncodeElements.{MaskFits, MoveFits, PermFits, ReduceFits}
use Rattle.rv_decode.specs.EncodeVector.{ArithFits}
use Rattle.rv_decode.specs.Needs.{needs_of, needs_of_access, needs_of_arith, needs_of_mask, needs_of_move, needs_of_perm, needs_of_place, needs_of_reduce}
use Rattle.rv_decode.specs.declared.extents.Eew.TheVariants.{Double, Same}
use Rattle.rv_decode.specs.declared.extents.Operands.{Operands}
use Rattle.rv_decode.specs.declared.instructions.Direction.{Direction}
use Rattle.rv_decode.specs.declared.instructions.Direction.TheVariants.{Load, Store}
use Rattle.rv_decode.specs.declared.instructions.Insn.TheVariants as class
use Rattle.rv_decode.specs.declared.instructions.VArith.{VArith}
use Rattle.rv_decode.specs.declared.instructions.VArith.TheVariants.{Int, MultiplyAdd, Carry, CarryOut, Merge, Copy, Compare, Fixed as FixedPoint, Widen, Wide, WidenMultiplyAdd, Narrow, Clip, Extend}
use Rattle.rv_decode.specs.declared.instructions.VMask.{VMask}
use Rattle.rv_decode.specs.declared.instructions.VMask.TheVariants.{Logic, Count, First, SetFirst, Iota, Index}
use Rattle.rv_decode.specs.declared.instructions.VMem.{VMem}
use Rattle.rv_decode.specs.declared.instructions.VMove.{VMove}
use Rattle.rv_decode.specs.declared.instructions.VMove.TheVariants.{FromScalar, ToScalar, Whole}
use Rattle.rv_decode.specs.declared.instructions.VPerm.{VPerm}
use Rattle.rv_decode.specs.declared.instructions.VPerm.TheVariants.{SlideUp, SlideDown, SlideOneUp, SlideOneDown, Gather, Gather16, Compress}
use Rattle.rv_decode.specs.declared.instructions.VReduce.{VReduce}
use Rattle.rv_decode.specs.declared.instructions.VReduce.TheVariants.{Fold, WidenSum}
use Rattle.vreg_groups.specs.Legality.{are_operands_legal, is_legal, is_present_legal}
use Rattle.vreg_groups.specs.VectorType.{type_in, vtype_of}
use Rattle.vector_mem.specs.Transfers.{data_of, loaded_to, unless_refused, vector_load, vector_store}
use Rattle.vector_mem.specs.declared.plan.Access.{Access}
use Rattle.vector_core.specs.Arithmetic.{arith_of}
use Rattle.vector_core.specs.FixedPoint.{fixed_of}
use Rattle.vector_core.specs.Integer.{carry_of, carry_out_of, compare_of, int_of, multiply_add_of}
use Rattle.vector_core.specs.KeepLaws.{AreRegisters, IsOutside, KeepsVectors, StepsKeepVectors, is_computing}
use Rattle.vector_core.specs.LoadsStores.{direction_step, loaded_step, memory_step, stored_step}
use Rattle.vector_core.specs.Masks.{index_of, iota_of, logic_of, mask_step, set_first_of}
use Rattle.vector_core.specs.Moves.{copy_of, from_scalar_of, merge_of, move_step}
use Rattle.vector_core.specs.Narrowing.{clip_of, narrow_of}
use Rattle.vector_core.specs.Permutations.{compress_of, gather16_of, gather_of, perm_of, perm_step, slide_down_of, slide_one_down_of, slide_one_up_of, slide_up_of}
use Rattle.vector_core.specs.Reductions.{fold_of, reduce_of, reduce_step, widen_sum_of}
use Rattle.vector_core.specs.Setup.{setup_of}
use Rattle.vector_core.specs.Step.{arith_step, legal_step, vector_step}
use Rattle.vector_core.specs.Vectors.{Stepped, Vectors, with_registers}
use Rattle.vector_core.specs.Widening.{extend_of, wide_of, widen_multiply_add_of, widen_of}
use Rattle.vector_core.specs.Words.{Fault, Hart, Illegal, Insn, Memory, Setup, Vtype}
use Rattle.vector_core.proofs.Destinations.{bits_kept, first_kept, loaded_kept, results_from_kept, results_kept, whole_kept}
use Rattle.vector_core.proofs.Kept.{IsKept, all_kept, unless_kept}

-- what is outside a destination
abbrev Outside : ℕ → Option Vtype → Operands → ℕ → Type 0
Outside vlenb vtype operands i = IsOutside vlenb vtype operands.destination i

-- ---- the registers, by classes

module _ (vlenb : ℕ) (vtype : Option Vtype) (s : Setup) (file : List ℕ) (is : s.vtype ≡ type_in vtype) (r : AreRegisters vlenb file) where
  arith_kept : (hart : Hart) (insn : VArith) → ArithFits insn → is_present_legal vtype (needs_of_arith insn).destination ≡ true
      → IsKept vlenb (Outside vlenb vtype (needs_of_arith insn)) file (arith_of vlenb s hart insn file).registers
  unfolding needs_of_arith arith_of int_of multiply_add_of carry_of carry_out_of merge_of copy_of compare_of fixed_of widen_of wide_of widen_multiply_add_of narrow_of clip_of extend_of
  arith_kept hart (Int op vd vs2 b masked) f l = results_kept vlenb vtype s file is r Same vd masked _ f.0 l
  arith_kept hart (MultiplyAdd op vd vs2 b masked) f l = results_kept vlenb vtype s file is r Same vd masked _ f.0 l
  arith_kept hart (Carry op vd vs2 b) f l = results_kept vlenb vtype s file is r Same vd false _ f.0 l
  arith_kept hart (CarryOut op vd vs2 b with_carry) f l = bits_kept vlenb vtype s file is r vd false _ f.0
  arith_kept hart (Merge vd vs2 b) f l = results_kept vlenb vtype s file is r Same vd false _ f.0 l
  arith_kept hart (Copy vd b) f l = results_kept vlenb vtype s file is r Same vd false _ f.0 l
  arith_kept hart (Compare op vd vs2 b masked) f l = bits_kept vlenb vtype s file is r vd masked _ f.0
  arith_kept hart (FixedPoint op vd vs2 b masked) f l = results_kept vlenb vtype s file is r Same vd masked _ f.0 l
  arith_kept hart (Widen op vd vs2 b masked) f l = results_kept vlenb vtype s file is r Double vd masked _ f.0 l
  arith_kept hart (Wide op vd vs2 b masked) f l = results_kept vlenb vtype s file is r Double vd masked _ f.0 l
  arith_kept hart (WidenMultiplyAdd op vd vs2 b masked) f l = results_kept vlenb vtype s file is r Double vd masked _ f.0 l
  arith_kept hart (Narrow op vd vs2 b masked) f l = results_kept vlenb vtype s file is r Same vd masked _ f.0 l
  arith_kept hart (Clip op vd vs2 b masked) f l = results_kept vlenb vtype s file is r Same vd masked _ f.0 l
  arith_kept hart (Extend signed of vd vs2 masked) f l = results_kept vlenb vtype s file is r Same vd masked _ f.0 l

  perm_kept : (hart : Hart) (insn : VPerm) → PermFits insn → is_present_legal vtype (needs_of_perm insn).destination ≡ true
      → IsKept vlenb (Outside vlenb vtype (needs_of_perm insn)) file (perm_of vlenb s hart insn file)
  unfolding needs_of_perm perm_of slide_up_of slide_down_of slide_one_up_of slide_one_down_of gather_of gather16_of compress_of
  perm_kept hart (SlideUp vd vs2 offset masked) f l = results_from_kept vlenb vtype s file is r Same vd _ masked _ f.0 l
  perm_kept hart (SlideDown vd vs2 offset masked) f l = results_kept vlenb vtype s file is r Same vd masked _ f.0 l
  perm_kept hart (SlideOneUp vd vs2 rs1 masked) f l = results_kept vlenb vtype s file is r Same vd masked _ f.0 l
  perm_kept hart (SlideOneDown vd vs2 rs1 masked) f l = results_kept vlenb vtype s file is r Same vd masked _ f.0 l
  perm_kept hart (Gather vd vs2 b masked) f l = results_kept vlenb vtype s file is r Same vd masked _ f.0 l
  perm_kept hart (Gather16 vd vs2 vs1 masked) f l = results_kept vlenb vtype s file is r Same vd masked _ f.0 l
  perm_kept hart (Compress vd vs2 vs1) f l = results_kept vlenb vtype s file is r Same vd false _ f.0 l

  reduce_kept : (insn : VReduce) → ReduceFits insn
      → IsKept vlenb (Outside vlenb vtype (needs_of_reduce insn)) file (reduce_of vlenb s insn file)
  unfolding needs_of_reduce reduce_of fold_of widen_sum_of
  reduce_kept (Fold op vd vs2 vs1 masked) f = first_kept vlenb vtype s file is r Same _ vd _ f.0
  reduce_kept (WidenSum signed vd vs2 vs1 masked) f = first_kept vlenb vtype s file is r Double _ vd _ f.0

-- ---- the state, by classes

-- vtype and vl stay, and what is outside a destination
record Leaves (vlenb : ℕ) (vtype : Option Vtype) (operands : Operands) (v next : Vectors) : Type 0 where
  config : next.config ≡ v.config
  kept : IsKept vlenb (Outside vlenb vtype operands) v.registers next.registers

abbrev stepped : Hart → Vectors → Memory → Stepped
stepped hart v memory = Ok (hart, v, memory)

-- the vectors of a step that was made
vectors_of : Vectors → Stepped → Vectors
vectors_of v (Ok (hart, next, memory)) = next
vectors_of v (Err fault) = v

same_vectors : (g hart : Hart) (v next : Vectors) (m memory : Memory) → stepped g v m ≡ stepped hart next memory → v ≡ next
unfolding vectors_of
same_vectors g hart v next m memory e = ap (vectors_of v) e

module _ (vlenb : ℕ) (vtype : Option Vtype) (operands : Operands) (v next : Vectors) (hart : Hart) (memory : Memory) where
  leaves : (g : Hart) (m : Memory) (registers : List ℕ) → IsKept vlenb (Outside vlenb vtype operands) v.registers registers
      → stepped g (with_registers registers v) m ≡ stepped hart next memory → Leaves vlenb vtype operands v next
  leaves g m registers kept e =
      subst (λ (n : Vectors). Leaves vlenb vtype operands v n) (same_vectors g hart (with_registers registers v) next m memory e)
      (record { config = refl; kept = kept })

  -- a step that writes no vector register
  leaves_all : (g : Hart) (m : Memory) → AreRegisters vlenb v.registers → stepped g v m ≡ stepped hart next memory
      → Leaves vlenb vtype operands v next
  leaves_all g m r e = leaves g m v.registers (all_kept vlenb _ v.registers r) e

module _ (vlenb : ℕ) (vtype : Option Vtype) (s : Setup) (h hart : Hart) (v next : Vectors) (m memory : Memory)
    (is : s.vtype ≡ type_in vtype) (r : AreRegisters vlenb v.registers) where
  abbrev After : Stepped → Type 0
  After step = step ≡ stepped hart next memory

  arith_leaves : (insn : VArith) → ArithFits insn → is_present_legal vtype (needs_of_arith insn).destination ≡ true
      → After (arith_step vlenb s insn h v m) → Leaves vlenb vtype (needs_of_arith insn) v next
  unfolding arith_step
  arith_leaves insn f l e =
      leaves vlenb vtype (needs_of_arith insn) v next hart memory _ m (arith_of vlenb s h insn v.registers).registers
      (arith_kept vlenb vtype s v.registers is r h insn f l) e

  mask_leaves : (insn : VMask) → MaskFits insn → is_present_legal vtype (needs_of_mask insn).destination ≡ true
      → After (mask_step vlenb s insn h v m) → Leaves vlenb vtype (needs_of_mask insn) v next
  unfolding needs_of_mask mask_step logic_of set_first_of iota_of index_of
  mask_leaves (Logic op vd vs2 vs1) f l e =
      leaves vlenb vtype _ v next hart memory _ m _ (bits_kept vlenb vtype s v.registers is r vd false _ f.0) e
  mask_leaves (Count rd vs2 masked) f l e = leaves_all vlenb vtype _ v next hart memory _ m r e
  mask_leaves (First rd vs2 masked) f l e = leaves_all vlenb vtype _ v next hart memory _ m r e
  mask_leaves (SetFirst op vd vs2 masked) f l e =
      leaves vlenb vtype _ v next hart memory _ m _ (bits_kept vlenb vtype s v.registers is r vd masked _ f.0) e
  mask_leaves (Iota vd vs2 masked) f l e =
      leaves vlenb vtype _ v next hart memory _ m _ (results_kept vlenb vtype s v.registers is r Same vd masked _ f.0 l) e
  mask_leaves (Index vd masked) f l e =
      leaves vlenb vtype _ v next hart memory _ m _ (results_kept vlenb vtype s v.registers is r Same vd masked _ f l) e

  perm_leaves : (insn : VPerm) → PermFits insn → is_present_legal vtype (needs_of_perm insn).destination ≡ true
      → After (perm_step vlenb s insn h v m) → Leaves vlenb vtype (needs_of_perm insn) v next
  unfolding perm_step
  perm_leaves insn f l e =
      leaves vlenb vtype (needs_of_perm insn) v next hart memory _ m (perm_of vlenb s h insn v.registers)
      (perm_kept vlenb vtype s v.registers is r h insn f l) e

  reduce_leaves : (insn : VReduce) → ReduceFits insn → After (reduce_step vlenb s insn h v m)
      → Leaves vlenb vtype (needs_of_reduce insn) v next
  unfolding reduce_step
  reduce_leaves insn f e =
      leaves vlenb vtype (needs_of_reduce insn) v next hart memory _ m (reduce_of vlenb s insn v.registers)
      (reduce_kept vlenb vtype s v.registers is r insn f) e

  move_leaves : (insn : VMove) → MoveFits insn → is_present_legal vtype (needs_of_move insn).destination ≡ true
      → is_present_legal vtype (needs_of_move insn).vs2 ≡ true → After (move_step vlenb s insn h v m)
      → Leaves vlenb vtype (needs_of_move insn) v next
  unfolding needs_of_move move_step from_scalar_of
  move_leaves (ToScalar rd vs2) f l from e = leaves_all vlenb vtype _ v next hart memory _ m r e
  move_leaves (FromScalar vd rs1) f l from e =
      leaves vlenb vtype _ v next hart memory _ m _ (first_kept vlenb vtype s v.registers is r Same _ vd _ f.0) e
  move_leaves (Whole count vd vs2) f l from e =
      leaves vlenb vtype _ v next hart memory _ m _ (whole_kept vlenb vtype s v.registers is r count vd vs2 f.0 f.1 l from) e

  -- a load that is not refused, and a store
  load_leaves : (insn : VMem) (values : List ℕ) (fault : ℕ → Fault) (refused : Option Access) → insn.values < 32
      → is_present_legal vtype (needs_of_place insn.place Load insn.values).destination ≡ true
      → After (loaded_step (unless_refused fault refused (loaded_to vlenb s insn values v.registers)) h v m)
      → Leaves vlenb vtype (needs_of_place insn.place Load insn.values) v next
  unfolding loaded_to
  load_leaves insn values fault (Some access) below l e = absurd (cc)
  load_leaves insn values fault None below l e =
      leaves vlenb vtype _ v next hart memory _ m _
      (unless_kept vlenb _ ((data_of vlenb s insn).vl == 0) v.registers _ r
      (loaded_kept vlenb vtype s v.registers is r insn.place insn.values _ values _ below l)) e

  store_leaves : (operands : Operands) (fault : ℕ → Fault) (refused : Option Access) (new : Memory)
      → After (stored_step (unless_refused fault refused new) h v) → Leaves vlenb vtype operands v next
  store_leaves operands fault (Some access) new e = absurd (cc)
  store_leaves operands fault None new e = leaves_all vlenb vtype operands v next hart memory _ new r e

  access_leaves : (d : Direction) (insn : VMem) → insn.values < 32
      → is_present_legal vtype (needs_of_place insn.place d insn.values).destination ≡ true
      → After (direction_step d vlenb s insn h v m) → Leaves vlenb vtype (needs_of_place insn.place d insn.values) v next
  unfolding direction_step vector_load vector_store
  access_leaves Load insn below l e = load_leaves insn _ _ _ below l e
  access_leaves Store insn below l e = store_leaves _ _ _ _ e

  memory_leaves : (insn : VMem) → AccessFits insn → is_present_legal vtype (needs_of_access insn).destination ≡ true
      → After (memory_step vlenb s insn h v m) → Leaves vlenb vtype (needs_of_access insn) v next
  unfolding needs_of_access memory_step
  memory_leaves insn f l e = access_leaves insn.direction insn f.0 l e

  class_leaves : (insn : Insn) → is_computing insn ≡ true → FieldsFit insn → is_present_legal vtype (needs_of insn).destination ≡ true
      → is_present_legal vtype (needs_of insn).vs2 ≡ true → After (legal_step vlenb s insn h v m)
      → Leaves vlenb vtype (needs_of insn) v next
  unfolding needs_of legal_step
  class_leaves (class.Scalar insn) c f l from e = absurd (cc)
  class_leaves (class.Csr insn) c f l from e = absurd (cc)
  class_leaves (class.VSet insn) c f l from e = absurd (cc)
  class_leaves (class.VArith insn) c f l from e = arith_leaves insn f l e
  class_leaves (class.VMask insn) c f l from e = mask_leaves insn f l e
  class_leaves (class.VPerm insn) c f l from e = perm_leaves insn f l e
  class_leaves (class.VReduce insn) c f l from e = reduce_leaves insn f e
  class_leaves (class.VMem insn) c f l from e = memory_leaves insn f l e
  class_leaves (class.VMove insn) c f l from e = move_leaves insn f l from e

-- ---- a step

-- the operands of a legal instruction are legal
first_two : (a b c d : Bool) → (a && b && c && d) ≡ true → (a ≡ true) × (b ≡ true)
first_two true true c d l = (refl, refl)
first_two true false c d l = absurd (cc)
first_two false b c d l = absurd (cc)

legal_operands : (vtype : Option Vtype) (operands : Operands) → are_operands_legal vtype operands ≡ true
    → (is_present_legal vtype operands.destination ≡ true) × (is_present_legal vtype operands.vs2 ≡ true)
unfolding are_operands_legal
legal_operands vtype operands l = first_two _ _ _ _ l

legal_kept : (vlenb : ℕ) (insn : Insn) (h hart : Hart) (v next : Vectors) (m memory : Memory) → is_computing insn ≡ true
    → FieldsFit insn → AreRegisters vlenb v.registers → is_legal v.config insn ≡ true
    → legal_step vlenb (setup_of (type_in (vtype_of v.config.vtype)) v) insn h v m ≡ stepped hart next memory
    → KeepsVectors vlenb insn v next
unfolding is_legal
legal_kept vlenb insn h hart v next m memory c f r l e =
    let vtype = vtype_of v.config.vtype in
    let legal = legal_operands vtype (needs_of insn) l in
    let left : Leaves vlenb vtype (needs_of insn) v next =
    class_leaves vlenb vtype (setup_of (type_in vtype) v) h hart v next m memory refl r insn c f legal.0 legal.1 e in
    record { config = left.config; registers = left.kept.registers; others = left.kept.others }

pub steps_kept : StepsKeepVectors
unfolding vector_step
steps_kept vlenb word insn h hart v next m memory c f _ r e = by_test (is_legal v.config insn) refl e
  where
    by_test : (t : Bool) → is_legal v.config insn ≡ t
        → (if t then legal_step vlenb (setup_of (type_in (vtype_of v.config.vtype)) v) insn h v m else Err (Illegal word))
        ≡ stepped hart next memory → KeepsVectors vlenb insn v next
    by_test true l k = legal_kept vlenb insn h hart v next m memory c f r l k
    by_test false l k = absurd (cc)
