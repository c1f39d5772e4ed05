-- A legal vector instruction whose accesses are permitted leads to a hart and memory that fit what is known next.
use Rattle.std.proofs.Common.{◌≡◌, ◌<◌, ◌≤◌, ◌+◌, ◌*◌, ◌%◌, ◌^◌, ℕ, Bool, true, false, arith, refl, sym, ap, ◌∙◌, length, List, Option, Some, None}
use Rattle.std.specs.Prelude.{ℤ, pos, negsuc, get_or, unwrap_or, Ok}
use Rattle.std.specs.Int.{w8, w16, w32, cast_signed, cast_unsigned}
use Rattle.std.proofs.lemmas.List.Sums.{count_by-le-length}
use Rattle.std.proofs.lemmas.List.Quantifiers.{position-Some}
use Rattle.std.proofs.lemmas.List.{length-replicate}
use Rattle.std.proofs.lemmas.List.FromFn.{length-map-range_with_len}
use Rattle.std.proofs.lemmas.Simd.{length-zip2}
use Rattle.std.proofs.Math.Facts.{sfits_to_z}
use Rattle.std.specs.Int.RustNames.{FitsSigned}
use Rattle.vreg_groups.specs.WriteLemmas.{number_at-lt}
use Rattle.rv_decode.specs.Instructions.{bytes_of_width}
use Rattle.vreg_groups.specs.Elements.{element_at}
use Rattle.rv_decode.specs.declared.instructions.Width.{Width}
use Rattle.rv_decode.specs.declared.instructions.Width.TheVariants.{W8, W16, W32}
use Rattle.vector_core.specs.Integer.{lane_width}
use Rattle.rv_decode.specs.declared.instructions.Insn.{Insn}
use Rattle.rv_decode.specs.declared.instructions.Insn.TheVariants.{Scalar, Csr, VSet, VArith, VMask, VPerm, VReduce, VMem, VMove}
use Rattle.rv_decode.specs.declared.instructions.VMask as mask
use Rattle.rv_decode.specs.declared.instructions.VMask.TheVariants.{Logic, Count, First, SetFirst, Iota, Index}
use Rattle.rv_decode.specs.declared.instructions.VMove as move
use Rattle.rv_decode.specs.declared.instructions.VMove.TheVariants.{ToScalar, FromScalar, Whole}
use Rattle.rv_decode.specs.declared.instructions.VMem as mem
use Rattle.rv_decode.specs.declared.instructions.VArith as arith
use Rattle.rv_decode.specs.declared.instructions.Direction.{Direction}
use Rattle.rv_decode.specs.declared.instructions.Direction.TheVariants.{Load, Store}
use Rattle.rv_decode.specs.Encodings.{FieldsFit}
use Rattle.region_mem.specs.Memory.{Memory}
use Rattle.vreg_groups.specs.declared.vector_length.Vconfig.{Vconfig}
use Rattle.vreg_groups.specs.declared.setup.Setup.{Setup}
use Rattle.vreg_groups.specs.Elements.{active_of, bit_at, mask_bits}
use Rattle.vreg_groups.specs.Legality.{is_legal}
use Rattle.vreg_groups.specs.VectorType.{type_in, vtype_of}
use Rattle.vector_mem.specs.Accesses.{first_refused, stored}
use Rattle.vector_mem.specs.declared.plan.Access.{Access}
use Rattle.vector_mem.specs.Transfers.{accesses_of, vector_load, vector_store}
use Rattle.scalar_core.specs.Hart.{Hart, IsHart, advanced, next_pc, put, reg_of, with_reg}
use Rattle.scalar_core.specs.StateLemmas.{advanced-is_hart, csrs-is_hart, put-is_hart}
use Rattle.lane_masks.specs.Masks as lanes
use Rattle.vector_core.specs.Arithmetic.{arith_of}
use Rattle.vector_core.specs.KeepLaws.{is_computing}
use Rattle.vector_core.specs.LoadsStores.{direction_step, memory_step, stride_of}
use Rattle.vector_core.specs.Masks.{count_of, first_of, mask_step, set_and_active}
use Rattle.vector_core.specs.Moves.{move_step, to_scalar_of}
use Rattle.vector_core.specs.Permutations.{perm_step}
use Rattle.vector_core.specs.Reductions.{reduce_step}
use Rattle.vector_core.specs.Setup.{setup_of}
use Rattle.vector_core.specs.Step.{arith_step, legal_step, vector_step, with_saturation}
use Rattle.vector_core.specs.Vectors.{Stepped, Vectors}
use Rattle.abs_domain.specs.declared.values.Effect.TheVariants.{Fresh}
use Rattle.abs_domain.specs.Numbers.{NumbersView, value_at, with_result}
use Rattle.abs_domain.specs.Described.{LiesIn}
use Rattle.abs_domain.specs.Holds.{Holds, Follows}
use Rattle.abs_state.specs.After.{mask_numbers, move_numbers, next_word, vector_numbers}
use Rattle.abs_domain.specs.Memories.{KeepsMemory}
use Rattle.abs_domain.specs.MemoryLemmas.{nothing_changes}
use Rattle.abs_domain.specs.StateLemmas.{result_holds}
use Rattle.abs_state.proofs.StepScalars.{moved, pc_stays, same_registers, stays}

-- a step that goes on at the next word, and what is known there
pub record IsDone (s new : NumbersView) (v : ℕ → ℕ) (pc : ℕ) (config : Vconfig) (m : Memory) (result : Stepped) : Type 0 where
  pub hart : Hart
  pub vectors : Vectors
  pub memory : Memory
  pub is : result ≡ Ok (hart, vectors, memory)
  pub is_hart : IsHart hart
  pub at : hart.pc ≡ next_word pc
  pub kept : KeepsMemory m memory
  pub follows : Follows s new v hart config

-- ---- harts

module _ (s : NumbersView) (v : ℕ → ℕ) (h : Hart) (config : Vconfig) (m : Memory) (is : IsHart h) (holds : Holds s v h config) where
  -- nothing but vector registers, vxsat and memory
  same_done : (g : Hart) (vectors : Vectors) (memory : Memory) → IsHart g → g.pc ≡ h.pc → g.x ≡ h.x → KeepsMemory m memory
      → IsDone s s v h.pc config m (Ok (advanced g, vectors, memory))
  same_done g vectors memory is_g pc x kept =
      record {
        hart = advanced g;
        vectors = vectors;
        memory = memory;
        is = refl;
        is_hart = advanced-is_hart g is_g;
        at = ap (λ (n : ℕ). (n + 4) % 2 ^ 32) pc;
        kept = kept;
        follows = moved s s v (next_pc g) g config (stays s v g config (same_registers s v g h config x holds));
      }

  -- an x register gets a number of a range
  put_done : (rd x lo hi : ℕ) (vectors : Vectors) → rd < 32 → lo ≤ x → x ≤ hi → hi < 2 ^ 32
      → IsDone s (with_result rd (Fresh record { lo = lo; hi = hi }) s) v h.pc config m (Ok (put rd x h, vectors, m))
  put_done rd x lo hi vectors l low high fits =
      let there : (with_reg rd x h).pc ≡ h.pc = pc_stays rd x h in
      let lies : LiesIn (record { lo = lo; hi = hi }) x = record { low = low; high = high; fits = fits } in
      record {
        hart = put rd x h;
        vectors = vectors;
        memory = m;
        is = refl;
        is_hart = put-is_hart rd x h (omega (arith, high, fits)) is;
        at = ap (λ (n : ℕ). (n + 4) % 2 ^ 32) there;
        kept = nothing_changes m;
        follows =
            moved s _ v (next_pc (with_reg rd x h)) (with_reg rd x h) config
            (result_holds s v h config rd x (Fresh record { lo = lo; hi = hi }) is l holds lies);
      }

saturated_is : (b : Bool) (h : Hart) → IsHart h → IsHart (with_saturation b h)
saturated_is true h is = csrs-is_hart h.vxrm 1 h is.vxrm_fits (omega arith) is
saturated_is false h is = is

saturated_pc : (b : Bool) (h : Hart) → (with_saturation b h).pc ≡ h.pc
saturated_pc true h = refl
saturated_pc false h = refl

saturated_x : (b : Bool) (h : Hart) → (with_saturation b h).x ≡ h.x
saturated_x true h = refl
saturated_x false h = refl

-- ---- masks

length_bits : (vlenb register n : ℕ) (file : List ℕ) → length (mask_bits vlenb register n file) ≡ n
unfolding mask_bits
length_bits vlenb register n file = length-map-range_with_len (bit_at (register * vlenb) file) 0 n

length_active : (vlenb : ℕ) (masked : Bool) (n : ℕ) (file : List ℕ) → length (active_of vlenb masked n file) ≡ n
unfolding active_of
length_active vlenb true n file = length_bits vlenb 0 n file
length_active vlenb false n file = length-replicate n true

length_set : (vlenb : ℕ) (t : Setup) (vs2 : ℕ) (masked : Bool) (file : List ℕ) → length (set_and_active vlenb t vs2 masked file) ≡ t.vl
unfolding set_and_active
length_set vlenb t vs2 masked file =
    let a = length_bits vlenb vs2 t.vl file in
    let b = length_active vlenb masked t.vl file in
    length-zip2 _ (mask_bits vlenb vs2 t.vl file) (active_of vlenb masked t.vl file) (a ∙ sym b) ∙ a

-- vcpop gives at most vl
count_low : (vlenb : ℕ) (t : Setup) (vs2 : ℕ) (masked : Bool) (file : List ℕ) → count_of vlenb t vs2 masked file ≤ t.vl
unfolding count_of
count_low vlenb t vs2 masked file =
    let l = count_by-le-length (λ bit. bit) (set_and_active vlenb t vs2 masked file) in
    let k = length_set vlenb t vs2 masked file in
    omega (arith, l, k)

-- vfirst gives a number below vl, or all ones
first_low : (bits : List Bool) (o : Option ℕ) → lanes.first_set bits ≡ o → length bits < 2 ^ 32 → unwrap_or o 0xffff_ffff < 2 ^ 32
first_low bits None e l = omega arith
first_low bits (Some i) e l = (let below = (position-Some (λ bit. bit) bits i false e).0 in omega (arith, below, l))

-- ---- moves

-- an element read as a signed number, as one of 32 bits
word_fits : (z : ℤ) → FitsSigned w32 z → cast_unsigned w32 z < 2 ^ 32
word_fits (pos n) f = omega (arith, f.sfits)
word_fits (negsuc n) f = omega (arith, f.sfits)

byte_fits : (z : ℤ) → FitsSigned w8 z → FitsSigned w32 z
byte_fits z f = record { sfits = omega (arith, f.sfits) }

half_fits : (z : ℤ) → FitsSigned w16 z → FitsSigned w32 z
half_fits z f = record { sfits = omega (arith, f.sfits) }

extended_fits : (sew : Width) (n : ℕ) → n < 256 ^ bytes_of_width sew → cast_unsigned w32 (cast_signed (lane_width sew) n) < 2 ^ 32
extended_fits W8 n l = word_fits _ (byte_fits _ (sfits_to_z (record { fits = l })))
extended_fits W16 n l = word_fits _ (half_fits _ (sfits_to_z (record { fits = l })))
extended_fits W32 n l = word_fits _ (sfits_to_z (record { fits = l }))

moved_fits : (vlenb : ℕ) (t : Setup) (vs2 : ℕ) (file : List ℕ) → ((i : ℕ) → get_or file i 0 < 256) → to_scalar_of vlenb t vs2 file < 2 ^ 32
unfolding to_scalar_of element_at
moved_fits vlenb t vs2 file bytes =
    extended_fits t.vtype.sew _ (number_at-lt (bytes_of_width t.vtype.sew) (vs2 * vlenb + bytes_of_width t.vtype.sew * 0) file bytes)

-- ---- classes

-- what an instruction's accesses are
abbrev pub IsPermitted : ℕ → Insn → Hart → Vectors → Memory → Type 0
IsPermitted vlenb (Scalar insn) h x m = Unit {0}
IsPermitted vlenb (Csr insn) h x m = Unit {0}
IsPermitted vlenb (VSet insn) h x m = Unit {0}
IsPermitted vlenb (VArith insn) h x m = Unit {0}
IsPermitted vlenb (VMask insn) h x m = Unit {0}
IsPermitted vlenb (VPerm insn) h x m = Unit {0}
IsPermitted vlenb (VReduce insn) h x m = Unit {0}
IsPermitted vlenb (VMem insn) h x m =
    first_refused
    (accesses_of vlenb (setup_of (type_in (vtype_of x.config.vtype)) x) insn (reg_of insn.rs1 h) (stride_of insn.place h) x.registers) m ≡ None
IsPermitted vlenb (VMove insn) h x m = Unit {0}

module _ (keeps : (list : List Access) (values : List ℕ) (m : Memory) → KeepsMemory m (stored list values m)) (s : NumbersView) (v : ℕ → ℕ) (vlenb : ℕ)
    (h : Hart) (x : Vectors) (m : Memory) (is : IsHart h) (small : x.config.vl < 2 ^ 32)
    (bytes : (i : ℕ) → get_or x.registers i 0 < 256) (holds : Holds s v h x.config) where
  abbrev Done : NumbersView → Stepped → Type 0
  Done new result = IsDone s new v h.pc x.config m result

  here : (next : Vectors) → Done s (Ok (advanced h, next, m))
  here next = same_done s v h x.config m is holds h next m is refl refl (nothing_changes m)

  mask_done : (t : Setup) (insn : mask.VMask) → t.vl ≡ x.config.vl → FieldsFit (VMask insn) → Done (mask_numbers insn s) (mask_step vlenb t insn h x m)
  unfolding mask_numbers mask_step first_of
  mask_done t (Logic op vd vs2 vs1) e f = here _
  mask_done t (Count rd vs2 masked) e f =
      let n = holds.each 32 (omega arith) in
      let l = count_low vlenb t vs2 masked x.registers in
      put_done s v h x.config m is holds rd (count_of vlenb t vs2 masked x.registers) 0 (value_at s 32).range.hi x f.0 (omega arith)
      (omega (arith, l, e, n.lies.high)) n.lies.fits
  mask_done t (First rd vs2 masked) e f =
      let bits = set_and_active vlenb t vs2 masked x.registers in
      let k = length_set vlenb t vs2 masked x.registers in
      let l : first_of vlenb t vs2 masked x.registers < 2 ^ 32 = first_low bits (lanes.first_set bits) refl (omega (arith, k, e, small)) in
      put_done s v h x.config m is holds rd (first_of vlenb t vs2 masked x.registers) 0 4294967295 x f.0 (omega arith) (omega (arith, l)) (omega arith)
  mask_done t (SetFirst op vd vs2 masked) e f = here _
  mask_done t (Iota vd vs2 masked) e f = here _
  mask_done t (Index vd masked) e f = here _

  move_done : (t : Setup) (insn : move.VMove) → FieldsFit (VMove insn) → Done (move_numbers insn s) (move_step vlenb t insn h x m)
  unfolding move_numbers move_step
  move_done t (ToScalar rd vs2) f =
      let l = moved_fits vlenb t vs2 x.registers bytes in
      put_done s v h x.config m is holds rd (to_scalar_of vlenb t vs2 x.registers) 0 4294967295 x f.0 (omega arith) (omega (arith, l)) (omega arith)
  move_done t (FromScalar vd rs1) f = here _
  move_done t (Whole count vd vs2) f = here _

  arith_done : (t : Setup) (insn : arith.VArith) → Done s (arith_step vlenb t insn h x m)
  unfolding arith_step
  arith_done t insn =
      let b = (arith_of vlenb t h insn x.registers).saturated in
      same_done s v h x.config m is holds (with_saturation b h) _ m (saturated_is b h is) (saturated_pc b h) (saturated_x b h) (nothing_changes m)

  access_done : (t : Setup) (insn : mem.VMem)
      → first_refused (accesses_of vlenb t insn (reg_of insn.rs1 h) (stride_of insn.place h) x.registers) m ≡ None
      → Done s (memory_step vlenb t insn h x m)
  unfolding memory_step direction_step vector_load vector_store
  access_done t insn e = by_direction insn.direction
    where
      by_direction : (d : Direction) → Done s (direction_step d vlenb t insn h x m)
      by_direction Load = rw e (here _)
      by_direction Store = rw e (same_done s v h x.config m is holds h x _ is refl refl (keeps _ _ m))

  legal_done : (insn : Insn) → is_computing insn ≡ true → FieldsFit insn → IsPermitted vlenb insn h x m
      → Done (vector_numbers insn s) (legal_step vlenb (setup_of (type_in (vtype_of x.config.vtype)) x) insn h x m)
  unfolding vector_numbers legal_step perm_step reduce_step
  legal_done (Scalar insn) c f p = cc
  legal_done (Csr insn) c f p = cc
  legal_done (VSet insn) c f p = cc
  legal_done (VArith insn) c f p = arith_done _ insn
  legal_done (VMask insn) c f p = mask_done _ insn refl f
  legal_done (VPerm insn) c f p = here _
  legal_done (VReduce insn) c f p = here _
  legal_done (VMem insn) c f p = access_done _ insn p
  legal_done (VMove insn) c f p = move_done _ insn f

  pub vector_done : (insn : Insn) (word : ℕ) → is_computing insn ≡ true → FieldsFit insn → is_legal x.config insn ≡ true → IsPermitted vlenb insn h x m
      → Done (vector_numbers insn s) (vector_step vlenb insn word h x m)
  unfolding vector_step
  vector_done insn word c f legal p = rw legal (legal_done insn c f p)
