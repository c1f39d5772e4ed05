-- What a legal vector instruction states of its destination is true of the registers that it leaves.
use Rattle.std.proofs.Common.{◌≡◌, ◌≤◌, ◌*◌, ◌%◌, ◌^◌, ℕ, Bool, true, false, arith, refl, sym, ap, ◌∙◌, subst, length, map, take, List, Option, Some, None, IfSome}
use Rattle.std.specs.List.{AllByRecursion, range_with_len}
use Rattle.std.specs.Prelude.{◌||◌, Ok}
use Rattle.std.proofs.lemmas.Bool.{and_parts}
use Rattle.std.proofs.lemmas.List.{length-replicate, length-take}
use Rattle.std.proofs.lemmas.List.FromFn.{get_or-map-range_with_len, length-map-range_with_len}
use Rattle.std.proofs.lemmas.List.Sums.{count_by-le-length}
use Rattle.std.proofs.lemmas.Simd.{length-zip2}
use mir.Val.{bits}
use Rattle.linear_facts.specs.declared.ranges.Range.{Range}
use Rattle.rv_decode.specs.declared.extents.Eew.TheVariants.{Double, Same}
use Rattle.rv_decode.specs.declared.extents.Operand.{Operand}
use Rattle.rv_decode.specs.declared.extents.Operands.{Operands}
use Rattle.rv_decode.specs.declared.instructions.Fraction as fraction
use Rattle.rv_decode.specs.declared.instructions.Fraction.TheVariants.{Half, Quarter}
use Rattle.rv_decode.specs.declared.instructions.Insn.{Insn}
use Rattle.rv_decode.specs.declared.instructions.Insn.TheVariants as class
use Rattle.rv_decode.specs.declared.instructions.Source.{Source}
use Rattle.rv_decode.specs.declared.instructions.Source.TheVariants.{Vector, Scalar, Immediate}
use Rattle.rv_decode.specs.declared.instructions.VArith.{VArith}
use Rattle.rv_decode.specs.declared.instructions.VArith.TheVariants.{Int, MultiplyAdd, Carry, CarryOut, Merge, Copy, Compare, Fixed, Widen, Wide, WidenMultiplyAdd, Narrow, Clip, Extend}
use Rattle.rv_decode.specs.declared.instructions.VMask.{VMask}
use Rattle.rv_decode.specs.declared.instructions.VMask.TheVariants.{Logic, Count, First, SetFirst, Iota, Index}
use Rattle.rv_decode.specs.declared.instructions.Width.{Width}
use Rattle.rv_decode.specs.declared.instructions.Width.TheVariants.{W8, W16, W32}
use Rattle.rv_decode.specs.EncodeElements.{MaskFits}
use Rattle.rv_decode.specs.EncodeVector.{ArithFits, OperandFits, code_of_int, code_of_merge, code_of_narrow}
use Rattle.rv_decode.specs.Operations.{Form}
use Rattle.rv_decode.specs.Encodings.{FieldsFit}
use Rattle.rv_decode.specs.Needs.{eew_of, needs_of, needs_of_arith, needs_of_mask, second}
use Rattle.region_mem.specs.Memory.{Memory}
use Rattle.vreg_groups.specs.declared.setup.Setup.{Setup}
use Rattle.vreg_groups.specs.declared.vector_length.Vconfig.{Vconfig}
use Rattle.vreg_groups.specs.declared.vector_type.Vtype.{Vtype}
use Rattle.vreg_groups.specs.Elements.{active_of, bit_at, mask_bits}
use Rattle.vreg_groups.specs.Legality.{are_operands_legal, eew_bits, is_legal, is_operand_legal, is_present_legal}
use Rattle.vreg_groups.specs.Setup.{group_at}
use Rattle.rv_decode.specs.Instructions.{bits_of_width}
use Rattle.vreg_groups.specs.VectorType.{vlmax_of, vtype_of}
use Rattle.scalar_core.specs.Hart.{Hart}
use Rattle.lane_int.specs.Integer.{element}
use Rattle.lane_int.specs.Resizing.{cut_to, extended_to}
use Rattle.lane_masks.specs.Masks as lanes
use Rattle.vector_core.specs.Arithmetic.{arith_of}
use Rattle.vector_core.specs.Integer.{int_of, lane_width}
use Rattle.vector_core.specs.Masks.{index_of, iota_of, mask_step, set_and_active}
use Rattle.vector_core.specs.Moves.{copy_of}
use Rattle.vector_core.specs.Narrowing.{narrow_of}
use Rattle.vector_core.specs.Operands.{results_written}
use Rattle.vector_core.specs.Operations.{narrow_lanes}
use Rattle.vector_core.specs.Setup.{setup_of}
use Rattle.vector_core.specs.Step.{arith_step, legal_step, vector_step}
use Rattle.vector_core.specs.Vectors.{Stepped, Vectors}
use Rattle.vector_core.specs.Widening.{double_width, extend_of, fraction_width}
use Rattle.machine.specs.Machine.{Machine}
use Rattle.cert_note.specs.declared.values.VectorFact.{VectorFact}
use Rattle.abs_transfer.specs.Facts.{arith_range, fact_if, int_range, known_type, mask_range, narrow_range, place_range, second_range, source_range, stated_at, stated_by, stated_range, unless_masked}
use Rattle.abs_state.specs.Held.{AreTrueOf, Held, IsTrueOf, Setting, VtypeHolds, vlenb_in}
use Rattle.abs_domain.specs.Numbers.{NumbersView, value_at}
use Rattle.abs_state.specs.State.{AbstractView}
use Rattle.abs_state.specs.VectorLaws.{StatedAreTrue}
use Rattle.abs_transfer.specs.AddressLemmas.{register_holds}
use Rattle.abs_state.proofs.Elements.{IsWithin, int_element, narrow_element, place_lies}
use Rattle.abs_state.proofs.StatedOperands.{IsRead, IsSecond, map_lies, map_zip_lies, second_lies, source_lies, zip_lies}
use Rattle.abs_state.proofs.StatedWrites.{AreResults, IsGroup, fact_true, legal_group}
use Rattle.abs_transfer.specs.ConfigurationLemmas.{config_within}

-- ---- operands of a legal instruction

record AreOperands (t : Vtype) (operands : Operands) : Type 0 where
  destination : is_present_legal (Some t) operands.destination ≡ true
  vs2 : is_present_legal (Some t) operands.vs2 ≡ true
  vs1 : is_present_legal (Some t) operands.vs1 ≡ true

legal_operands : (t : Vtype) (operands : Operands) → are_operands_legal (Some t) operands ≡ true → AreOperands t operands
unfolding are_operands_legal
legal_operands t operands e =
    let a = and_parts _ _ e in
    let b = and_parts _ _ a.0 in
    let c = and_parts _ _ b.0 in
    record { destination = c.0; vs2 = c.1; vs1 = b.1 }

lane_bits : (w : Width) → bits_of_width w ≡ bits (lane_width w)
lane_bits W8 = refl
lane_bits W16 = refl
lane_bits W32 = refl

-- what fits a fraction of SEW fits SEW
wider : (w : Width) (of : fraction.Fraction) (r : Range) (x : ℕ) → IsWithin (2 ^ eew_bits w (eew_of of)) r x
    → IsWithin (2 ^ bits_of_width w) r x
wider W8 Half r x h = record { low = h.low; high = h.high; fits = omega (arith, h.fits) }
wider W16 Half r x h = record { low = h.low; high = h.high; fits = omega (arith, h.fits) }
wider W32 Half r x h = record { low = h.low; high = h.high; fits = omega (arith, h.fits) }
wider W8 Quarter r x h = record { low = h.low; high = h.high; fits = omega (arith, h.fits) }
wider W16 Quarter r x h = record { low = h.low; high = h.high; fits = omega (arith, h.fits) }
wider W32 Quarter r x h = record { low = h.low; high = h.high; fits = omega (arith, h.fits) }

-- ---- the instructions

module _ (vlenb : ℕ) (s : Setup) (hart : Hart) (file : List ℕ) (numbers : NumbersView) (facts : List VectorFact)
    (h : IsRead vlenb s hart file numbers facts) where
  abbrev sew : ℕ
  sew = bits_of_width s.vtype.sew

  abbrev vl_range : Range
  vl_range = (value_at numbers 32).range

  abbrev AreTrue : List ℕ → List VectorFact → Type 0
  AreTrue next stated = AllByRecursion (IsTrueOf vlenb s.vl next) stated

  -- a masked instruction states nothing
  unless : (masked : Bool) (first : ℕ) (range : Option Range) (results : List ℕ)
      → IsGroup vlenb sew (group_at s first Same) → AreResults sew s.vl range results
      → AreTrue (results_written vlenb s (group_at s first Same) masked results file)
      (fact_if s.vtype first (unless_masked masked range))
  unfolding fact_if
  unless true first range results inside are = tt
  unless false first range results inside are = fact_true vlenb s first range results file h.vlenb_is inside h.registers are

  second_inside : (forms : List Form) (b : Source) → OperandFits forms b → is_present_legal (Some s.vtype) (second b) ≡ true
      → IsSecond vlenb s hart file numbers facts h b
  unfolding is_operand_legal
  second_inside forms (Vector vs1) fits e = legal_group vlenb s vs1 Same fits.1 h.fits e
  second_inside forms (Scalar rs1) fits e = fits.1
  second_inside forms (Immediate imm) fits e = tt

  -- an extension by zeros leaves the numbers as they are; one by the sign states nothing
  extend_true : (signed : Bool) (of : fraction.Fraction) (vd vs2 : ℕ) (masked : Bool) → IsGroup vlenb sew (group_at s vd Same)
      → IsGroup vlenb (eew_bits s.vtype.sew (eew_of of)) (group_at s vs2 (eew_of of))
      → AreTrue (extend_of vlenb s signed of vd vs2 masked file)
      (fact_if s.vtype vd (unless_masked (masked || signed) (Some (source_range s.vtype vl_range vs2 (eew_of of) facts))))
  unfolding fact_if extend_of extended_to
  extend_true true of vd vs2 true destination source = tt
  extend_true true of vd vs2 false destination source = tt
  extend_true false of vd vs2 true destination source = tt
  extend_true false of vd vs2 false destination source =
      let a = source_range s.vtype vl_range vs2 (eew_of of) facts in
      unless false vd (Some a) _ destination
      (map_lies sew (eew_bits s.vtype.sew (eew_of of)) s.vl a (Some a)
      (extended_to false (fraction_width s.vtype.sew of) (lane_width s.vtype.sew)) _
      (source_lies vlenb s hart file numbers facts h vs2 (eew_of of) source) (λ x. wider s.vtype.sew of a x))

  arith_true : (insn : VArith) → ArithFits insn → AreOperands s.vtype (needs_of_arith insn)
      → AreTrue (arith_of vlenb s hart insn file).registers
      (stated_at vlenb s.vtype numbers facts (class.VArith insn) (needs_of_arith insn).destination)
  unfolding needs_of_arith is_operand_legal stated_at stated_range arith_range fact_if arith_of int_of copy_of narrow_of extended_to
  arith_true (Int op vd vs2 b masked) fits legal =
      let destination = legal_group vlenb s vd Same fits.0 h.fits legal.destination in
      let source = legal_group vlenb s vs2 Same fits.1 h.fits legal.vs2 in
      let inside = second_inside (code_of_int op).forms b fits.2 legal.vs1 in
      let a = source_range s.vtype vl_range vs2 Same facts in
      let c = second_range s.vtype numbers facts b in
      unless masked vd (int_range sew op b a c) _ destination
      (zip_lies sew sew sew s.vl a c (int_range sew op b a c) (element op (lane_width s.vtype.sew)) _ _
      (source_lies vlenb s hart file numbers facts h vs2 Same source)
      (second_lies vlenb s hart file numbers facts h b inside) (λ x y. int_element s.vtype.sew op b a c x y))
  arith_true (MultiplyAdd op vd vs2 b masked) fits legal = tt
  arith_true (Carry op vd vs2 b) fits legal = tt
  arith_true (CarryOut op vd vs2 b with_carry) fits legal = tt
  arith_true (Merge vd vs2 b) fits legal = tt
  arith_true (Copy vd b) fits legal =
      let destination = legal_group vlenb s vd Same fits.0 h.fits legal.destination in
      let inside = second_inside code_of_merge.forms b fits.1 legal.vs1 in
      unless false vd (Some (second_range s.vtype numbers facts b)) _ destination
      (second_lies vlenb s hart file numbers facts h b inside)
  arith_true (Compare op vd vs2 b masked) fits legal = tt
  arith_true (Fixed op vd vs2 b masked) fits legal = tt
  arith_true (Widen op vd vs2 b masked) fits legal = tt
  arith_true (Wide op vd vs2 b masked) fits legal = tt
  arith_true (WidenMultiplyAdd op vd vs2 b masked) fits legal = tt
  arith_true (Narrow op vd vs2 b masked) fits legal =
      let destination = legal_group vlenb s vd Same fits.0 h.fits legal.destination in
      let source = legal_group vlenb s vs2 Double fits.1 h.fits legal.vs2 in
      let inside = second_inside (code_of_narrow op).forms b fits.2 legal.vs1 in
      let a = source_range s.vtype vl_range vs2 Double facts in
      let c = second_range s.vtype numbers facts b in
      let amounts = map_lies sew sew s.vl c (Some c) (extended_to false (lane_width s.vtype.sew) (double_width s)) _
      (second_lies vlenb s hart file numbers facts h b inside) (λ x l. l) in
      unless masked vd (narrow_range sew op a c) _ destination
      (map_zip_lies sew (2 * sew) sew s.vl a c (narrow_range sew op a c) (cut_to (lane_width s.vtype.sew))
      (element (narrow_lanes op) (double_width s)) _ _
      (source_lies vlenb s hart file numbers facts h vs2 Double source) amounts
      (λ x y. narrow_element s.vtype.sew (2 ^ (2 * sew)) op a c x y))
  arith_true (Clip op vd vs2 b masked) fits legal = tt
  arith_true (Extend signed of vd vs2 masked) fits legal =
      extend_true signed of vd vs2 masked (legal_group vlenb s vd Same fits.0 h.fits legal.destination)
      (legal_group vlenb s vs2 (eew_of of) fits.1 h.fits legal.vs2)

  -- ---- masks

  -- numbers of elements below each place
  places_true : (f : ℕ → ℕ) (n : ℕ) → n ≡ s.vl → ((i : ℕ) → f i ≤ i)
      → AreResults sew s.vl (place_range vlenb s.vtype)
      (map (λ i. f i % 2 ^ bits (lane_width s.vtype.sew)) (range_with_len 0 n))
  places_true f n len least =
      let g : ℕ → ℕ = λ i. f i % 2 ^ bits (lane_width s.vtype.sew) in
      record {
        count = length-map-range_with_len g 0 n ∙ len;
        each = λ i l. subst (λ (x : ℕ). IfSome (place_range vlenb s.vtype) (λ r. IsWithin (2 ^ sew) r x))
            (ap (λ (k : ℕ). f i % 2 ^ k) (lane_bits s.vtype.sew)
            ∙ sym (get_or-map-range_with_len g 0 n i i 0 (omega (arith, l, len)) (omega arith)))
            (place_lies sew (vlmax_of vlenb s.vtype) (f i) (omega (arith, least i, l, h.fits)));
      }

  mask_length : (vs2 : ℕ) → length (set_and_active vlenb s vs2 false file) ≡ s.vl
  unfolding set_and_active mask_bits active_of
  mask_length vs2 =
      let bits = length-map-range_with_len (bit_at (vs2 * vlenb) file) 0 s.vl in
      length-zip2 _ _ _ (bits ∙ sym (length-replicate s.vl true)) ∙ bits

  set_before : (mask : List Bool) (i : ℕ) → lanes.set_count (take i mask) ≤ i
  set_before mask i =
      let l = count_by-le-length (λ bit. bit) (take i mask) in
      omega (arith, l, length-take i mask)

  iota_true : (vd vs2 : ℕ) (masked : Bool) → IsGroup vlenb sew (group_at s vd Same)
      → AreTrue (iota_of vlenb s vd vs2 masked file) (fact_if s.vtype vd (unless_masked masked (place_range vlenb s.vtype)))
  unfolding fact_if iota_of lanes.iota_of
  iota_true vd vs2 true destination = tt
  iota_true vd vs2 false destination =
      let mask = set_and_active vlenb s vs2 false file in
      unless false vd (place_range vlenb s.vtype) _ destination
      (places_true (λ i. lanes.set_count (take i mask)) (length mask) (mask_length vs2) (set_before mask))

  index_true : (vd : ℕ) (masked : Bool) → IsGroup vlenb sew (group_at s vd Same)
      → AreTrue (index_of vlenb s vd masked file) (fact_if s.vtype vd (unless_masked masked (place_range vlenb s.vtype)))
  unfolding index_of lanes.index_of
  index_true vd masked destination =
      unless masked vd (place_range vlenb s.vtype) _ destination (places_true (λ i. i) s.vl refl (λ i. omega arith))

-- ---- steps

-- what a step answers
abbrev answer : Hart → Vectors → Memory → Stepped
answer h v m = Ok (h, v, m)

left : (h hart : Hart) (v next : Vectors) (m memory : Memory) → answer h v m ≡ answer hart next memory → v ≡ next
left h hart v next m memory e = ap (λ (p : Hart × Vectors × Memory). p.1) (same (h, v, m) (hart, next, memory) e)
  where
    same : (p q : Hart × Vectors × Memory) → answer p.0 p.1 p.2 ≡ answer q.0 q.1 q.2 → p ≡ q
    same p q e = cc

-- a fact that there is not
nothing : (vlenb : ℕ) (v : Vectors) (t : Vtype) (numbers : NumbersView) (facts : List VectorFact) (insn : Insn)
    (destination : Option Operand) → stated_range vlenb t numbers facts insn ≡ None
    → AreTrueOf vlenb v (stated_at vlenb t numbers facts insn destination)
unfolding stated_at fact_if
nothing vlenb v t numbers facts insn None e = tt
nothing vlenb v t numbers facts insn (Some destination) e =
    subst (λ (r : Option Range). AreTrueOf vlenb v (fact_if t destination.first r)) (sym e) tt

module _ (vlenb : ℕ) (t : Vtype) (hart after : Hart) (v next : Vectors) (m memory : Memory) (numbers : NumbersView)
    (facts : List VectorFact) (h : IsRead vlenb (setup_of t v) hart v.registers numbers facts) where
  abbrev s : Setup
  s = setup_of t v

  -- the same of the registers that a step leaves
  left_true : (registers : List ℕ) (hart after : Hart) (m memory : Memory) (stated : List VectorFact)
      → answer hart (record v { registers = registers }) m ≡ answer after next memory
      → AllByRecursion (IsTrueOf vlenb v.config.vl registers) stated → AreTrueOf vlenb next stated
  left_true registers hart after m memory stated e holds =
      subst (λ (w : Vectors). AreTrueOf vlenb w stated) (left hart after (record v { registers = registers }) next m memory e) holds

  mask_step_true : (insn : VMask) → MaskFits insn → AreOperands t (needs_of_mask insn)
      → mask_step vlenb s insn hart v m ≡ answer after next memory
      → AreTrueOf vlenb next (stated_at vlenb t numbers facts (class.VMask insn) (needs_of_mask insn).destination)
  unfolding needs_of_mask is_operand_legal stated_at stated_range mask_range fact_if mask_step
  mask_step_true (Logic op vd vs2 vs1) fits legal e = tt
  mask_step_true (Count rd vs2 masked) fits legal e = tt
  mask_step_true (First rd vs2 masked) fits legal e = tt
  mask_step_true (SetFirst op vd vs2 masked) fits legal e = tt
  mask_step_true (Iota vd vs2 masked) fits legal e =
      left_true _ _ _ _ _ _ e
      (iota_true vlenb s hart v.registers numbers facts h vd vs2 masked (legal_group vlenb s vd Same fits.0 h.fits legal.destination))
  mask_step_true (Index vd masked) fits legal e =
      left_true _ _ _ _ _ _ e
      (index_true vlenb s hart v.registers numbers facts h vd masked (legal_group vlenb s vd Same fits h.fits legal.destination))

  step_true : (insn : Insn) → FieldsFit insn → AreOperands t (needs_of insn)
      → legal_step vlenb s insn hart v m ≡ answer after next memory
      → AreTrueOf vlenb next (stated_at vlenb t numbers facts insn (needs_of insn).destination)
  unfolding needs_of legal_step arith_step stated_at stated_range
  step_true (class.Scalar insn) fits legal e = tt
  step_true (class.Csr insn) fits legal e = tt
  step_true (class.VSet insn) fits legal e = tt
  step_true (class.VArith insn) fits legal e =
      left_true _ _ _ _ _ _ e (arith_true vlenb s hart v.registers numbers facts h insn fits legal)
  step_true (class.VMask insn) fits legal e = mask_step_true insn fits legal e
  step_true (class.VPerm insn) fits legal e = nothing vlenb next t numbers facts (class.VPerm insn) _ refl
  step_true (class.VReduce insn) fits legal e = nothing vlenb next t numbers facts (class.VReduce insn) _ refl
  step_true (class.VMem insn) fits legal e = nothing vlenb next t numbers facts (class.VMem insn) _ refl
  step_true (class.VMove insn) fits legal e = nothing vlenb next t numbers facts (class.VMove insn) _ refl

-- ---- machines

-- the vector type that is known is the machine's
type_is : (vtype : Option ℕ) (m : Machine) (t : Vtype) → VtypeHolds vtype m → known_type vtype ≡ Some t
    → vtype_of m.vectors.config.vtype ≡ Some t
type_is None m t h e = cc
type_is (Some b) m t h e = ap vtype_of h ∙ e

operands_of : (config : Vconfig) (insn : Insn) (t : Vtype) → vtype_of config.vtype ≡ Some t → is_legal config insn ≡ true
    → AreOperands t (needs_of insn)
unfolding is_legal
operands_of config insn t e legal = legal_operands t (needs_of insn) (rw e at legal)

step_of : (vlenb word : ℕ) (insn : Insn) (h : Hart) (v : Vectors) (m : Memory) (t : Vtype) (r : Stepped)
    → vtype_of v.config.vtype ≡ Some t → is_legal v.config insn ≡ true → vector_step vlenb insn word h v m ≡ r
    → legal_step vlenb (setup_of t v) insn h v m ≡ r
unfolding vector_step
step_of vlenb word insn h v m t r e legal is = rw (legal, e) at is

is_read : (e : Setting) (n : ℕ) (a : AbstractView) (s : Machine) (t : Vtype) → vtype_of s.vectors.config.vtype ≡ Some t
    → Held e n a s → IsRead (vlenb_in e) (setup_of t s.vectors) s.hart s.vectors.registers a.numbers a.groups
is_read e n a s t is h =
    record {
      vlenb_is = h.known.proper.vectors.vlenb_is;
      fits = config_within (vlenb_in e) s.vectors.config t is h.known.proper.vectors.config;
      registers = h.known.proper.registers;
      length = (h.known.known.each 32 (omega arith)).lies.high;
      scalars = λ i l. (register_holds a.numbers h.numbers s.hart s.vectors.config h.known.known i l).lies;
      holds = h.known.groups;
    }

pub steps_stated : StatedAreTrue
unfolding stated_by
steps_stated e n a s word insn h v m held fits legal is = by_type (known_type a.vtype) refl
  where
    by_type : (o : Option Vtype) → known_type a.vtype ≡ o
        → AreTrueOf (vlenb_in e) v (stated_by (vlenb_in e) o a.numbers a.groups insn)
    by_type None k = tt
    by_type (Some t) k =
        let type = type_is a.vtype s t held.known.vtype k in
        step_true (vlenb_in e) t s.hart h s.vectors v s.memory m a.numbers a.groups (is_read e n a s t type held) insn fits
        (operands_of s.vectors.config insn t type legal)
        (step_of (vlenb_in e) word insn s.hart s.vectors s.memory t (answer h v m) type legal is)
