-- What is known after a scalar instruction is true of the hart and memory to which it leads.
use Rattle.std.proofs.Common.{◌≡◌, ◌<◌, ◌+◌, ◌%◌, ◌^◌, ℕ, Bool, true, false, arith, refl, ap, ◌∙◌, subst, eq-eqb, length, List, Some, None, lit<}
use Rattle.std.proofs.lemmas.Int.{ints}
use Rattle.std.specs.Prelude.{if◌then◌else◌, ◌==◌, slice_index, slice_set, ℤ, Result, Ok, Err}
use Rattle.std.specs.Int.{w32}
use Rattle.std.specs.Int.RustNames.{FitsSigned}
use Rattle.std.proofs.lemmas.Bool.Decides.{nat_tests}
use Rattle.linear_facts.specs.declared.ranges.Range.{Range}
use Rattle.rv_decode.specs.declared.instructions.ScalarInsn.TheVariants.{Lui, Auipc, Jal, Jalr, Branch, Load, Store, Immediate, ShiftImmediate, Register, Fence, Ecall}
use Rattle.rv_decode.specs.declared.instructions.Condition.{Condition}
use Rattle.rv_decode.specs.declared.instructions.CsrInsn.{CsrInsn}
use Rattle.rv_decode.specs.declared.instructions.CsrName.{CsrName}
use Rattle.rv_decode.specs.declared.instructions.CsrName.TheVariants.{Vxsat, Vxrm, Vcsr, Vl, Vtype, Vlenb}
use Rattle.rv_decode.specs.declared.instructions.LoadKind.{LoadKind}
use Rattle.rv_decode.specs.declared.instructions.Width.{Width}
use Rattle.rv_decode.specs.Encode.{IsSigned}
use Rattle.region_mem.specs.declared.faults.Fault.{Fault}
use Rattle.region_mem.specs.declared.faults.Fault.TheVariants.{JumpMisaligned}
use Rattle.region_mem.specs.declared.faults.Right.TheVariants.{Read, Write}
use Rattle.region_mem.specs.Areas.{number_at, with_number}
use Rattle.region_mem.specs.Memory.{Memory, is_permitted, load_of, store_of}
use Rattle.region_mem.specs.Laws.{AreBytes}
use Rattle.region_mem.specs.ByteLemmas.{numbers_fit}
use Rattle.vreg_groups.specs.declared.vector_length.Vconfig.{Vconfig}
use Rattle.scalar_core.specs.Arithmetic.{immediate_result, is_taken, register_result, shift_result, unsigned}
use Rattle.scalar_core.specs.Csr.{csr_step, csr_value, csr_written, does_write, operand_of, with_csr, written}
use Rattle.scalar_core.specs.Hart.{Hart, IsHart, advanced, at_pc, exit, next_pc, put, reg_of, with_reg}
use Rattle.scalar_core.specs.Step.{address_of, beside, branch_step, branch_to, jal_step, jalr_step, jump_and_link, jump_to, load_from, load_step, loaded, offset_by, rv32im_step, size_of_load, size_of_store, store_from, store_step, without_bit_0}
use Rattle.scalar_core.specs.StateLemmas.{at_pc-is_hart, csr_written-is_hart, with_reg-is_hart}
use Rattle.abs_domain.specs.declared.why.Why.{Why}
use Rattle.abs_domain.specs.declared.zones.Zone.{Zone}
use Rattle.abs_state.specs.declared.state.Way.{Way}
use Rattle.abs_state.specs.declared.state.Way.TheVariants.{To, Fork}
use Rattle.abs_domain.specs.declared.values.Effect.{Effect}
use Rattle.abs_domain.specs.declared.values.Effect.TheVariants.{Computed, Fresh, Copied}
use Rattle.abs_domain.specs.Values.{known_of}
use Rattle.abs_domain.specs.Zones.{is_inside}
use Rattle.abs_domain.specs.Numbers.{NumbersView, value_at, with_result}
use Rattle.abs_domain.specs.Effects.{constant_effect, csr_effect, load_effect}
use Rattle.abs_domain.specs.Described.{LiesIn, Describes}
use Rattle.abs_domain.specs.Holds.{Holds, Follows}
use Rattle.abs_domain.specs.Memories.{HasZones}
use Rattle.abs_transfer.specs.Scalar.{address_range, if_allowed, load_check, store_check, scalar_after}
use Rattle.abs_transfer.specs.Csr.{csr_after}
use Rattle.abs_state.specs.After.{next_word, jump_way, way_of}
use Rattle.abs_state.specs.Held.{IsAt}
use Rattle.abs_state.specs.StepLaws.{or_misaligned, StepIsHeld, ScalarStepsHold, CsrStepsHold}
use Rattle.abs_domain.specs.Memories.{KeepsMemory}
use Rattle.abs_domain.specs.OperationLemmas.{constant_describes, csr_describes, immediate_describes, load_describes, register_describes, shift_describes}
use Rattle.abs_domain.specs.StateLemmas.{result_holds, value_fits}
use Rattle.abs_state.proofs.Growth.{ok_numbers, same_ok}
use Rattle.abs_transfer.specs.AddressLemmas.{address_lies, register_holds}
use Rattle.abs_transfer.specs.SplitLemmas.{same_numbers}
use Rattle.abs_domain.specs.MemoryLemmas.{inside_permitted, load_inside, nothing_changes, store_inside, store_keeps}

-- ---- harts

-- a write to a register leaves pc
pub pc_stays : (rd x : ℕ) (h : Hart) → (with_reg rd x h).pc ≡ h.pc
unfolding with_reg
pc_stays rd x h = by_test (rd == 0)
  where
    by_test : (t : Bool) → (if t then h else record h { x = slice_set h.x rd x }).pc ≡ h.pc
    by_test true = refl
    by_test false = refl

-- what is known of the registers is true of another hart with the same ones
pub same_registers : (s : NumbersView) (v : ℕ → ℕ) (g h : Hart) (config : Vconfig) → g.x ≡ h.x → Holds s v h config → Holds s v g config
same_registers s v g h config e holds =
    same_numbers s v g h config config holds (λ i. ap (λ (xs : List ℕ). if i == 32 then config.vl else slice_index xs i) e)

-- it follows from itself, and at another pc
pub stays : (s : NumbersView) (v : ℕ → ℕ) (h : Hart) (config : Vconfig) → Holds s v h config → Follows s s v h config
stays s v h config holds = record { numbers = v; same = λ a l. refl; grows = omega arith; holds = holds }

pub moved : (s new : NumbersView) (v : ℕ → ℕ) (pc : ℕ) (h : Hart) (config : Vconfig) → Follows s new v h config → Follows s new v (at_pc pc h) config
moved s new v pc h config f =
    record {
      numbers = f.numbers;
      same = f.same;
      grows = f.grows;
      holds = same_registers new f.numbers (at_pc pc h) h config refl f.holds;
    }

-- what is described has 32 bits
described_fits : (n : ℕ) (v : ℕ → ℕ) (e : Effect) (x : ℕ) → Describes n v e x → x < 2 ^ 32
described_fits n v (Computed f interval) x d = value_fits v f x d.0.number
described_fits n v (Fresh r) x d = omega (arith, d.high, d.fits)
described_fits n v (Copied f r) x d = omega (arith, d.1.high, d.1.fits)

either_fits : (t : Bool) (x y : ℕ) → x < 2 ^ 32 → y < 2 ^ 32 → (if t then x else y) < 2 ^ 32
either_fits true x y l k = l
either_fits false x y l k = k

-- ---- where a step leads

abbrev ok_step : Hart → Memory → Result (Hart × Memory) Fault
ok_step g m = Ok (g, m)

leads : (g : Hart) (m : Memory) → g.pc % 4 ≡ 0 → ok_step g m ≡ or_misaligned g m
leads g m e = by_test (g.pc % 4 == 0) (eq-eqb (g.pc % 4) 0 e)
  where
    by_test : (t : Bool) → t ≡ true → ok_step g m ≡ (if t then Ok (g, m) else Err (JumpMisaligned g.pc))
    by_test true k = refl
    by_test false k = cc

jump_leads : (target : ℕ) (g : Hart) (m : Memory) → beside m (jump_to target g) ≡ or_misaligned (at_pc target g) m
unfolding jump_to beside
jump_leads target g m = by_test (target % 4 == 0)
  where
    by_test : (t : Bool) → beside m (if t then Ok (at_pc target g) else Err (JumpMisaligned target))
        ≡ (if t then ok_step (at_pc target g) m else Err (JumpMisaligned target))
    by_test true = refl
    by_test false = refl

branch_leads : (t : Bool) (target : ℕ) (h : Hart) (m : Memory) → h.pc % 4 ≡ 0
    → beside m (branch_to t target h) ≡ or_misaligned (at_pc (if t then target else next_pc h) h) m
unfolding branch_to beside
branch_leads true target h m e = jump_leads target h m
branch_leads false target h m e = leads (advanced h) m (omega (arith, e))

-- a jump to an address that lies in a range
jump_at : (r : Range) (x : ℕ) (g : Hart) → LiesIn r x → IsAt (jump_way (known_of r)) (at_pc (without_bit_0 x) g)
unfolding jump_way
jump_at r x g lies = by_test (r.lo == r.hi) refl
  where
    by_test : (t : Bool) → (r.lo == r.hi) ≡ t → IsAt (jump_way (if t then Some r.lo else None)) (at_pc (without_bit_0 x) g)
    by_test true e =
        let one : r.lo ≡ r.hi = grind (arith, nat_tests) in
        let is : x ≡ r.lo = omega (arith, one, lies.low, lies.high) in
        ap (λ (n : ℕ). without_bit_0 n) is
    by_test false e = tt

-- ---- memory

load_reads : (address n : ℕ) (m : Memory) → is_permitted Read address n m ≡ true → load_of address n m ≡ Some (number_at address n m.areas)
unfolding load_of
load_reads address n m e = rw e refl

record IsStored (address n x : ℕ) (m : Memory) : Type 0 where
  stored : Memory
  is : store_of address n x m ≡ Some stored

store_writes : (address n x : ℕ) (m : Memory) → is_permitted Write address n m ≡ true → IsStored address n x m
unfolding store_of
store_writes address n x m e = record { stored = record m { areas = with_number address n x m.areas }; is = rw e refl }

-- an access that was allowed, and what follows it
record IsAllowed (check : Result (Unit {0}) Why) (s new : NumbersView) : Type 0 where
  done : Unit {0}
  allowed : check ≡ Ok done
  same : s ≡ new

allowed_is : (check : Result (Unit {0}) Why) (s new : NumbersView) → if_allowed check s ≡ Ok new → IsAllowed check s new
unfolding if_allowed
allowed_is (Ok u) s new e = record { done = u; allowed = refl; same = same_ok s new e }
allowed_is (Err why) s new e = cc

-- ---- instructions

-- a described number is put into rd, in a hart at the same pc
put_held : (s : NumbersView) (v : ℕ → ℕ) (config : Vconfig) (m : Memory) (pc rd x : ℕ) (e : Effect) (g : Hart) → g.pc ≡ pc → pc % 4 ≡ 0
    → IsHart g → Holds s v g config → rd < 32 → Describes (length s.atoms) v e x
    → StepIsHeld s (with_result rd e s) v config (To (next_word pc)) m (Ok (put rd x g, m))
put_held s v config m pc rd x e g same aligned is holds l d =
    let there : (with_reg rd x g).pc ≡ pc = pc_stays rd x g ∙ same in
    let next : next_pc (with_reg rd x g) ≡ next_word pc = ap (λ (n : ℕ). (n + 4) % 2 ^ 32) there in
    record {
      hart = put rd x g;
      memory = m;
      is = leads (put rd x g) m (omega (arith, aligned, there));
      is_hart =
          at_pc-is_hart (next_pc (with_reg rd x g)) (with_reg rd x g) (omega arith)
          (with_reg-is_hart rd x g (described_fits (length s.atoms) v e x d) is);
      kept = nothing_changes m;
      follows =
          moved s (with_result rd e s) v (next_pc (with_reg rd x g)) (with_reg rd x g) config (result_holds s v g config rd x e is l holds d);
      at = next;
    }

module _ (s : NumbersView) (v : ℕ → ℕ) (zones : List Zone) (h : Hart) (config : Vconfig) (m : Memory) (is : IsHart h) (has : HasZones zones m)
    (bytes : AreBytes m) (aligned : h.pc % 4 ≡ 0) (holds : Holds s v h config) where
  abbrev IsHeld : NumbersView → Way → Result (Hart × Memory) Fault → Type 0
  IsHeld new way result = StepIsHeld s new v config way m result

  puts : (rd x : ℕ) (e : Effect) (new : NumbersView) → rd < 32 → Describes (length s.atoms) v e x
      → ok_numbers (with_result rd e s) ≡ Ok new → IsHeld new (To (next_word h.pc)) (Ok (put rd x h, m))
  puts rd x e new l d eq =
      subst (λ (n : NumbersView). IsHeld n (To (next_word h.pc)) (Ok (put rd x h, m))) (same_ok (with_result rd e s) new eq)
      (put_held s v config m h.pc rd x e h refl aligned is holds l d)

  -- nothing but pc changes, and memory by a store
  goes_on : (new : NumbersView) (next : Memory) → s ≡ new → KeepsMemory m next
      → IsHeld new (To (next_word h.pc)) (Ok (advanced h, next))
  goes_on new next e kept =
      subst (λ (n : NumbersView). IsHeld n (To (next_word h.pc)) (Ok (advanced h, next))) e
      record {
        hart = advanced h;
        memory = next;
        is = leads (advanced h) next (omega (arith, aligned));
        is_hart = at_pc-is_hart (next_pc h) h (omega arith) is;
        kept = kept;
        follows = moved s s v (next_pc h) h config (stays s v h config holds);
        at = refl;
      }

  -- a jump with its link
  links : (rd target : ℕ) (way : Way) (new : NumbersView) → rd < 32 → target < 2 ^ 32
      → ((g : Hart) → IsAt way (at_pc target g))
      → ok_numbers (with_result rd (constant_effect ((h.pc + 4) % 2 ^ 32)) s) ≡ Ok new
      → IsHeld new way (beside m (jump_and_link rd target h))
  unfolding jump_and_link
  links rd target way new l fits at eq =
      let x : ℕ = (h.pc + 4) % 2 ^ 32 in
      let e : Effect = constant_effect x in
      let small : x < 2 ^ 32 = omega arith in
      subst (λ (n : NumbersView). IsHeld n way (beside m (jump_to target (with_reg rd x h)))) (same_ok (with_result rd e s) new eq)
      record {
        hart = at_pc target (with_reg rd x h);
        memory = m;
        is = jump_leads target (with_reg rd x h) m;
        is_hart = at_pc-is_hart target (with_reg rd x h) fits (with_reg-is_hart rd x h small is);
        kept = nothing_changes m;
        follows =
            moved s (with_result rd e s) v target (with_reg rd x h) config
            (result_holds s v h config rd x e is l holds (constant_describes (length s.atoms) v x small));
        at = at (with_reg rd x h);
      }

  jal_held : (rd : ℕ) (offset : ℤ) (new : NumbersView) → rd < 32
      → ok_numbers (with_result rd (constant_effect ((h.pc + 4) % 2 ^ 32)) s) ≡ Ok new
      → IsHeld new (To (offset_by h.pc offset)) (beside m (jal_step rd offset h))
  unfolding jal_step
  jal_held rd offset new l eq = links rd (offset_by h.pc offset) (To (offset_by h.pc offset)) new l (omega arith) (λ g. refl) eq

  jalr_held : (rd rs1 : ℕ) (offset : ℤ) (new : NumbersView) → rd < 32 → rs1 < 32 → FitsSigned w32 offset
      → ok_numbers (with_result rd (constant_effect ((h.pc + 4) % 2 ^ 32)) s) ≡ Ok new
      → IsHeld new (jump_way (known_of (address_range rs1 (unsigned offset) s))) (beside m (jalr_step rd rs1 offset h))
  unfolding jalr_step
  jalr_held rd rs1 offset new l k fits eq =
      let x : ℕ = address_of rs1 offset h in
      links rd (without_bit_0 x) (jump_way (known_of (address_range rs1 (unsigned offset) s))) new l (omega arith)
      (λ g. jump_at (address_range rs1 (unsigned offset) s) x g (address_lies s v h config rs1 offset holds k fits)) eq

  branch_held : (condition : Condition) (rs1 rs2 : ℕ) (offset : ℤ) (new : NumbersView) → rs1 < 32 → rs2 < 32
      → ok_numbers s ≡ Ok new
      → IsHeld new (Fork condition rs1 rs2 (offset_by h.pc offset) (next_word h.pc)) (beside m (branch_step condition rs1 rs2 offset h))
  unfolding branch_step
  branch_held condition rs1 rs2 offset new l k eq =
      let target : ℕ = offset_by h.pc offset in
      let t : Bool = is_taken condition (reg_of rs1 h) (reg_of rs2 h) in
      let pc : ℕ = if t then target else next_pc h in
      subst (λ (n : NumbersView). IsHeld n (Fork condition rs1 rs2 target (next_word h.pc)) (beside m (branch_to t target h))) (same_ok s new eq)
      record {
        hart = at_pc pc h;
        memory = m;
        is = branch_leads t target h m aligned;
        is_hart = at_pc-is_hart pc h (either_fits t target (next_pc h) (omega arith) (omega arith)) is;
        kept = nothing_changes m;
        follows = moved s s v pc h config (stays s v h config holds);
        at = (l, k, refl);
      }

  load_held : (kind : LoadKind) (rd rs1 : ℕ) (offset : ℤ) (new : NumbersView) → rd < 32 → rs1 < 32 → FitsSigned w32 offset
      → if_allowed (load_check rs1 offset (size_of_load kind) zones s) (with_result rd (load_effect kind) s) ≡ Ok new
      → IsHeld new (To (next_word h.pc)) (beside m (load_step kind rd rs1 offset h m))
  unfolding load_check load_step load_from beside
  load_held kind rd rs1 offset new l k fits eq =
      let r : Range = address_range rs1 (unsigned offset) s in
      let n : ℕ = size_of_load kind in
      let address : ℕ = address_of rs1 offset h in
      let x : ℕ = number_at address n m.areas in
      let a = allowed_is (load_check rs1 offset n zones s) (with_result rd (load_effect kind) s) new eq in
      let lies : LiesIn r address = address_lies s v h config rs1 offset holds k fits in
      let inside : is_inside Read r.lo (r.hi + n) zones ≡ true = load_inside r.lo (r.hi + n) zones a.done a.allowed in
      let permitted : is_permitted Read address n m ≡ true =
      inside_permitted Read r.lo (r.hi + n) zones m address n has inside lies.low (omega (arith, lies.high)) in
      rw (load_reads address n m permitted)
      (puts rd (loaded kind x) (load_effect kind) new l (load_describes (length s.atoms) v kind x (numbers_fit address n m bytes))
      (ap (λ (t : NumbersView). ok_numbers t) a.same))

  store_held : (size : Width) (rs1 rs2 : ℕ) (offset : ℤ) (new : NumbersView) → rs1 < 32 → FitsSigned w32 offset
      → if_allowed (store_check rs1 offset (size_of_store size) zones s) s ≡ Ok new
      → IsHeld new (To (next_word h.pc)) (store_step size rs1 rs2 offset h m)
  unfolding store_check store_step store_from
  store_held size rs1 rs2 offset new k fits eq =
      let r : Range = address_range rs1 (unsigned offset) s in
      let n : ℕ = size_of_store size in
      let address : ℕ = address_of rs1 offset h in
      let a = allowed_is (store_check rs1 offset n zones s) s new eq in
      let lies : LiesIn r address = address_lies s v h config rs1 offset holds k fits in
      let inside : is_inside Write r.lo (r.hi + n) zones ≡ true = store_inside r.lo (r.hi + n) zones a.done a.allowed in
      let permitted : is_permitted Write address n m ≡ true =
      inside_permitted Write r.lo (r.hi + n) zones m address n has inside lies.low (omega (arith, lies.high)) in
      let w : IsStored address n (reg_of rs2 h) m = store_writes address n (reg_of rs2 h) m permitted in
      rw (w.is) (goes_on new w.stored a.same (store_keeps address n (reg_of rs2 h) m w.stored w.is))

  ecall_held : (new : NumbersView) → ok_numbers s ≡ Ok new → IsHeld new (To exit) (Ok (at_pc exit h, m))
  ecall_held new eq =
      subst (λ (n : NumbersView). IsHeld n (To exit) (Ok (at_pc exit h, m))) (same_ok s new eq)
      record {
        hart = at_pc exit h;
        memory = m;
        is = leads (at_pc exit h) m refl;
        is_hart = at_pc-is_hart exit h (lit< tt) is;
        kept = nothing_changes m;
        follows = moved s s v exit h config (stays s v h config holds);
        at = refl;
      }

-- an offset or immediate of twelve bits has 32
short_fits : (z : ℤ) → IsSigned 2048 z → FitsSigned w32 z
short_fits z h = omega (arith, ints)

pub scalars_hold : ScalarStepsHold
unfolding scalar_after way_of rv32im_step
scalars_hold s new v zones (Lui rd imm) h config m f is has bytes aligned holds e =
    puts s v zones h config m is has bytes aligned holds rd imm _ new f.0 (constant_describes (length s.atoms) v imm f.1.1) e
scalars_hold s new v zones (Auipc rd imm) h config m f is has bytes aligned holds e =
    puts s v zones h config m is has bytes aligned holds rd ((h.pc + imm) % 2 ^ 32) _ new f.0
    (constant_describes (length s.atoms) v ((h.pc + imm) % 2 ^ 32) (omega arith)) e
scalars_hold s new v zones (Jal rd offset) h config m f is has bytes aligned holds e =
    jal_held s v zones h config m is has bytes aligned holds rd offset new f.0 e
scalars_hold s new v zones (Jalr rd rs1 offset) h config m f is has bytes aligned holds e =
    jalr_held s v zones h config m is has bytes aligned holds rd rs1 offset new f.0 f.1 (short_fits offset f.2) e
scalars_hold s new v zones (Branch condition rs1 rs2 offset) h config m f is has bytes aligned holds e =
    branch_held s v zones h config m is has bytes aligned holds condition rs1 rs2 offset new f.0 f.1 e
scalars_hold s new v zones (Load kind rd rs1 offset) h config m f is has bytes aligned holds e =
    load_held s v zones h config m is has bytes aligned holds kind rd rs1 offset new f.0 f.1 (short_fits offset f.2) e
scalars_hold s new v zones (Store size rs1 rs2 offset) h config m f is has bytes aligned holds e =
    store_held s v zones h config m is has bytes aligned holds size rs1 rs2 offset new f.0 (short_fits offset f.2) e
scalars_hold s new v zones (Immediate op rd rs1 imm) h config m f is has bytes aligned holds e =
    puts s v zones h config m is has bytes aligned holds rd (immediate_result op (reg_of rs1 h) imm) _ new f.0
    (immediate_describes (length s.atoms) v op (value_at s rs1) (reg_of rs1 h) imm
    (register_holds s v h config holds rs1 f.1) (short_fits imm f.2)) e
scalars_hold s new v zones (ShiftImmediate op rd rs1 amount) h config m f is has bytes aligned holds e =
    puts s v zones h config m is has bytes aligned holds rd (shift_result op (reg_of rs1 h) amount) _ new f.0
    (shift_describes (length s.atoms) v op (value_at s rs1) (reg_of rs1 h) amount
    (register_holds s v h config holds rs1 f.1)) e
scalars_hold s new v zones (Register op rd rs1 rs2) h config m f is has bytes aligned holds e =
    puts s v zones h config m is has bytes aligned holds rd (register_result op (reg_of rs1 h) (reg_of rs2 h)) _ new f.0
    (register_describes (length s.atoms) v op (value_at s rs1) (value_at s rs2) (reg_of rs1 h) (reg_of rs2 h)
    (register_holds s v h config holds rs1 f.1) (register_holds s v h config holds rs2 f.2)) e
scalars_hold s new v zones Fence h config m f is has bytes aligned holds e =
    goes_on s v zones h config m is has bytes aligned holds new m (same_ok s new e) (nothing_changes m)
scalars_hold s new v zones Ecall h config m f is has bytes aligned holds e =
    ecall_held s v zones h config m is has bytes aligned holds new e

-- ---- CSRs

-- a write to a CSR leaves pc and the registers
csr_stays : (csr : CsrName) (x : ℕ) (h : Hart) → ((with_csr csr x h).pc ≡ h.pc) × ((with_csr csr x h).x ≡ h.x)
unfolding with_csr
csr_stays Vxsat x h = (refl, refl)
csr_stays Vxrm x h = (refl, refl)
csr_stays Vcsr x h = (refl, refl)
csr_stays Vl x h = (refl, refl)
csr_stays Vtype x h = (refl, refl)
csr_stays Vlenb x h = (refl, refl)

written_stays : (insn : CsrInsn) (vlenb : ℕ) (config : Vconfig) (h : Hart)
    → ((csr_written insn vlenb config h).pc ≡ h.pc) × ((csr_written insn vlenb config h).x ≡ h.x)
unfolding csr_written
written_stays insn vlenb config h =
    by_test (does_write insn.action insn.source) (with_csr insn.csr x h) (csr_stays insn.csr x h)
  where
    x : ℕ
    x = written insn.action (csr_value insn.csr vlenb config h) (operand_of insn.source h)

    by_test : (t : Bool) (g : Hart) → (g.pc ≡ h.pc) × (g.x ≡ h.x) → ((if t then g else h).pc ≡ h.pc) × ((if t then g else h).x ≡ h.x)
    by_test true g e = e
    by_test false g e = (refl, refl)

pub csrs_hold : CsrStepsHold
unfolding csr_after csr_step
csrs_hold s v vlenb insn h config m f is l k aligned holds =
    let g : Hart = csr_written insn vlenb config h in
    let same = written_stays insn vlenb config h in
    put_held s v config m h.pc insn.rd (csr_value insn.csr vlenb config h) (csr_effect insn.csr vlenb (value_at s 32)) g same.0 aligned
    (csr_written-is_hart insn vlenb config h is) (same_registers s v g h config same.1 holds) f.0
    (csr_describes (length s.atoms) v insn.csr vlenb (value_at s 32) config h is l k (holds.each 32 (omega arith)))
