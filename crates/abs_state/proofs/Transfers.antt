-- Vector loads and stores that pass their test are permitted, and stores keep of memory what a step has to keep.
use Rattle.std.proofs.Common.{◌≡◌, ◌∙◌, ◌<◌, ◌≤◌, ◌+◌, ◌-◌, ◌*◌, ◌/◌, ◌%◌, ◌^◌, ℕ, zero, suc, Bool, true, false, cond, arith, refl, sym, ap, subst, lit<, List, ◌∷◌, length, map, find, Option, Some, None, IfSome, Ok, Err}
use Rattle.std.specs.Prelude.{if◌then◌else◌, ◌==◌, ◌&&◌, not, nat_lt, filter, get_or, slice_index, slice_index_or, MatchOption, Result}
use Rattle.std.specs.List.{AllByRecursion, range_with_len}
use Rattle.std.proofs.Math.Nat.{mul-div-le}
use Rattle.std.proofs.lemmas.Bool.Decides.{nat_tests}
use Rattle.std.proofs.lemmas.List.{length-replicate}
use Rattle.std.proofs.lemmas.List.FromFn.{length-map-range_with_len}
use Rattle.rv_decode.specs.declared.extents.Eew.TheVariants.{Fixed}
use Rattle.rv_decode.specs.declared.instructions.Count.{Count}
use Rattle.rv_decode.specs.declared.instructions.Direction.{Direction}
use Rattle.rv_decode.specs.declared.instructions.Direction.TheVariants.{Load, Store}
use Rattle.rv_decode.specs.declared.instructions.Insn.TheVariants as class
use Rattle.rv_decode.specs.declared.instructions.Addressing.{Addressing}
use Rattle.rv_decode.specs.declared.instructions.Addressing.TheVariants.{Unit as InARow, Strided, Indexed, Mask, Whole}
use Rattle.rv_decode.specs.declared.instructions.VMem as mem
use Rattle.rv_decode.specs.declared.instructions.Width.{Width}
use Rattle.rv_decode.specs.EncodeAccess.{PlaceFits}
use Rattle.rv_decode.specs.Needs.{access_operands, needs_of, needs_of_access, needs_of_place}
use Rattle.region_mem.specs.declared.faults.Right.{Right}
use Rattle.region_mem.specs.Memory.{Memory}
use Rattle.vreg_groups.specs.declared.policies.Agnostic.{Agnostic}
use Rattle.vreg_groups.specs.declared.setup.Setup.{Setup}
use Rattle.vreg_groups.specs.declared.vector_length.Vconfig.{Vconfig}
use Rattle.vreg_groups.specs.declared.vector_type.Vtype.{Vtype}
use Rattle.vreg_groups.specs.Elements.{active_of, mask_bits}
use Rattle.vreg_groups.specs.Group.{body_of}
use Rattle.vreg_groups.specs.Legality.{are_operands_legal, is_legal, is_operand_legal, whole_count}
use Rattle.vreg_groups.specs.Setup.{group_at}
use Rattle.vreg_groups.specs.VectorLength.{no_config, IsConfig}
use Rattle.rv_decode.specs.Instructions.{bytes_of_width}
use Rattle.vreg_groups.specs.VectorType.{type_in, vill, vlmax_of, vtype_of}
use Rattle.vector_mem.specs.declared.plan.Access.{Access}
use Rattle.vector_mem.specs.Accesses.{access_at, accesses, first_refused, is_refused}
use Rattle.vector_mem.specs.Transfers.{accesses_of, data_at, is_masked, place_at, right_of}
use Rattle.scalar_core.specs.Hart.{Hart, reg_of}
use Rattle.vector_core.specs.LoadsStores.{stride_of}
use Rattle.vector_core.specs.Setup.{setup_of}
use Rattle.machine.specs.StoreLemmas.{list_kept}
use Rattle.cert_note.specs.declared.values.VectorFact.{VectorFact}
use Rattle.abs_transfer.specs.declared.accesses.Reach.{Reach}
use Rattle.abs_domain.specs.declared.why.Why.{Why}
use Rattle.abs_domain.specs.declared.why.Why.TheVariants.{IllegalWord, VtypeUnknown}
use Rattle.abs_domain.specs.declared.zones.Zone.{Zone}
use Rattle.abs_domain.specs.Values.{ValueView, known_of}
use Rattle.abs_domain.specs.Zones.{is_inside}
use Rattle.abs_domain.specs.Numbers.{NumbersView, value_at}
use Rattle.abs_domain.specs.Described.{IsNumber}
use Rattle.abs_domain.specs.Holds.{Holds}
use Rattle.abs_domain.specs.Memories.{HasZones}
use Rattle.abs_transfer.specs.Facts.{known_type, source_range}
use Rattle.abs_transfer.specs.Legal.{legal_check, needs_vtype}
use Rattle.abs_transfer.specs.Accesses.{falling_reach, indexed_reach, is_whole, reach_allowed, reach_at, rising_reach, strided_reach, transfer_check, unit_reach}
use Rattle.abs_state.specs.Held.{IsKnown, IsTrueOf, vlenb_in}
use Rattle.abs_domain.specs.Memories.{KeepsMemory}
use Rattle.abs_state.specs.VectorLaws.{TransfersArePermitted, TransfersKeepMemory}
use Rattle.abs_transfer.specs.AddressLemmas.{register_holds}
use Rattle.abs_domain.specs.MemoryLemmas.{inside_fits, inside_permitted, load_inside, nothing_changes, store_inside, store_keeps}
use Rattle.abs_domain.specs.OperationLemmas.{known_is}
use Rattle.abs_transfer.specs.AccessLemmas.{LieWithin, falling_first, falling_lies, indexed_lies, rising_end, rising_lies, row_lies, unit_end}
use Rattle.abs_state.proofs.SourceLemmas.{element_is, source_lies, width_some}

-- ---- stores

-- what is kept twice is kept
kept_twice : (m next last : Memory) → KeepsMemory m next → KeepsMemory next last → KeepsMemory m last
kept_twice m next last h k =
    record {
      zones = λ zones has. k.zones zones (h.zones zones has);
      code = λ safe. ((k.code (h.code safe).0).0, λ pc. (k.code (h.code safe).0).1 pc ∙ (h.code safe).1 pc);
      bytes = λ are. k.bytes (h.bytes are);
    }

pub transfers_kept : TransfersKeepMemory
transfers_kept = list_kept KeepsMemory nothing_changes kept_twice store_keeps

-- ---- accesses

-- a test that holds of no element
none_from : (p : Access → Bool) (at : ℕ → Access) (t : ℕ → Bool) (i n : ℕ) → ((k : ℕ) → i ≤ k → k < i + n → p (at k) ≡ false)
    → find p (map at (filter t (range_with_len i n))) ≡ None
none_from p at t i zero h = refl
none_from p at t i (suc n) h =
    by_test (t i) (none_from p at t (i + 1) n (λ k l g. h k (omega (arith, l)) (omega (arith, g))))
  where
    more : List ℕ
    more = filter t (range_with_len (i + 1) n)

    by_test : (b : Bool) → find p (map at more) ≡ None → find p (map at (cond b (i ∷ more) more)) ≡ None
    by_test false rest = rest
    by_test true rest = rw (h i (omega arith) (omega arith)) rest

-- accesses that lie in a zone are permitted, whichever are active
none_refused : (right : Right) (size n first end : ℕ) (place : ℕ → ℕ) (active : List Bool) (zones : List Zone) (m : Memory)
    → HasZones zones m → is_inside right first end zones ≡ true → length active ≡ n → LieWithin first end size n place
    → first_refused (accesses right size place active) m ≡ None
unfolding first_refused accesses
none_refused right size n first end place active zones m has inside count lie =
    none_from (is_refused m) (access_at right size place) (λ k. slice_index_or active k false) 0 (length active) (λ k l g.
    let below : k < n = omega (arith, g, count) in
    ap not (inside_permitted right first end zones m (place k % 2 ^ 32) size has inside (lie.low k below) (lie.high k below)))

-- where there are no elements there is no access
no_elements : (right : Right) (size : ℕ) (place : ℕ → ℕ) (active : List Bool) (m : Memory) → length active ≡ 0
    → first_refused (accesses right size place active) m ≡ None
unfolding first_refused accesses
no_elements right size place active m none =
    none_from (is_refused m) (access_at right size place) (λ k. slice_index_or active k false) 0 (length active)
    (λ k l g. absurd (omega (arith, g, none)))

active_length : (vlenb n : ℕ) (masked : Bool) (file : List ℕ) → length (active_of vlenb masked n file) ≡ n
unfolding active_of mask_bits
active_length vlenb n true file = length-map-range_with_len _ 0 n
active_length vlenb n false file = length-replicate n true

-- ---- the test

-- what is allowed lies in a zone with the right
record IsAllowed (direction : Direction) (o : Option Reach) (zones : List Zone) : Type 0 where
  reach : Reach
  is : o ≡ Some reach
  inside : is_inside (right_of direction) reach.first reach.end zones ≡ true

allowed_is : (direction : Direction) (o : Option Reach) (zones : List Zone) (u : Unit {0}) → reach_allowed direction o zones ≡ Ok u
    → IsAllowed direction o zones
unfolding reach_allowed
allowed_is Load None zones u e = cc
allowed_is Store None zones u e = cc
allowed_is Load (Some reach) zones u e = record { reach = reach; is = refl; inside = load_inside reach.first reach.end zones u e }
allowed_is Store (Some reach) zones u e = record { reach = reach; is = refl; inside = store_inside reach.first reach.end zones u e }

-- the test of a place, and the accesses there
abbrev check_at : ℕ → Vtype → NumbersView → List VectorFact → List Zone → Direction → Addressing → ℕ → Result (Unit {0}) Why
check_at vlenb t s facts zones direction place rs1 =
    if not (is_whole place) && ((value_at s 32).range.hi == 0) then Ok tt
    else reach_allowed direction (reach_at vlenb t s facts place (value_at s rs1)) zones

abbrev accesses_at : ℕ → Setup → Direction → Addressing → ℕ → ℕ → ℕ → List ℕ → List Access
accesses_at vlenb setup direction place values base stride file =
    accesses (right_of direction) (data_at vlenb setup place values).bytes (place_at vlenb setup place base stride file)
    (active_of vlenb (is_masked place) (data_at vlenb setup place values).vl file)

-- ---- by place

-- Where a place's bytes may lie, and vl is not 0, its elements lie there.
abbrev Lie : NumbersView → ℕ → Vtype → List VectorFact → Setup → Addressing → ℕ → ℕ → ℕ → ℕ → List ℕ → Type 0
Lie s vlenb t facts setup place values rs1 base stride file =
    (r : Reach) → reach_at vlenb t s facts place (value_at s rs1) ≡ Some r → r.end ≤ 2 ^ 32
    → 0 < (data_at vlenb setup place values).vl
    → LieWithin r.first r.end (data_at vlenb setup place values).bytes (data_at vlenb setup place values).vl
    (place_at vlenb setup place base stride file)

same_reach : (a b : Reach) → Some a ≡ Some b → a ≡ b
same_reach a b e = cc

-- what is said of a reach is said of the one that is found
there : (P : Reach → Type 0) (a b : Reach) → Some a ≡ Some b → P a → P b
there P a b e h = subst P (same_reach a b e) h

module _ (vlenb : ℕ) (s : NumbersView) (v : ℕ → ℕ) (h : Hart) (config : Vconfig) (facts : List VectorFact) (agnostic : Agnostic)
    (t u : Vtype) (rs1 values : ℕ) (file : List ℕ) (holds : Holds s v h config) (below : rs1 < 32) where
  abbrev setup : Setup
  setup = record { vtype = u; vl = config.vl; agnostic = agnostic }

  abbrev LieAt : Addressing → ℕ → Type 0
  LieAt place stride = Lie s vlenb t facts setup place values rs1 (reg_of rs1 h) stride file

  base : IsNumber (length s.atoms) v (value_at s rs1) (reg_of rs1 h)
  base = register_holds s v h config holds rs1 below

  vl_is : IsNumber (length s.atoms) v (value_at s 32) config.vl
  vl_is = holds.each 32 (lit< tt)

  unit_lies : (width : Width) (masked : Bool) → LieAt (InARow width masked) 0
  unfolding reach_at place_at data_at unit_reach
  unit_lies width masked r e =
      there (λ (q : Reach). q.end ≤ 2 ^ 32 → 0 < config.vl
      → LieWithin q.first q.end (bytes_of_width width) config.vl (λ i. reg_of rs1 h + bytes_of_width width * i))
      (unit_reach s (bytes_of_width width) (value_at s rs1) (value_at s 32)) r e
      (λ fits some.
      row_lies (reg_of rs1 h) (bytes_of_width width) config.vl (value_at s rs1).range.lo _ (width_some width) base.lies.low
      (unit_end s v holds.atoms (length s.atoms) (value_at s rs1) (value_at s 32) (reg_of rs1 h) config.vl base vl_is (bytes_of_width width))
      fits)

  mask_lies : LieAt Mask 0
  unfolding reach_at place_at data_at
  mask_lies r e =
      there (λ (q : Reach). q.end ≤ 2 ^ 32 → 0 < (config.vl + 7) / 8
      → LieWithin q.first q.end 1 ((config.vl + 7) / 8) (λ i. reg_of rs1 h + 1 * i))
      (record { first = (value_at s rs1).range.lo; end = (value_at s rs1).range.hi + ((value_at s 32).range.hi + 7) / 8 }) r e
      (λ fits some.
      row_lies (reg_of rs1 h) 1 ((config.vl + 7) / 8) (value_at s rs1).range.lo _ (omega arith) base.lies.low
      (omega (arith, base.lies.high, vl_is.lies.high)) fits)

  whole_lies : (width : Width) (count : Count) → LieAt (Whole width count) 0
  unfolding reach_at place_at data_at
  whole_lies width count r e =
      let n = whole_count count * vlenb / bytes_of_width width in
      let room : bytes_of_width width * n ≤ whole_count count * vlenb = mul-div-le (whole_count count * vlenb) (bytes_of_width width) in
      there (λ (q : Reach). q.end ≤ 2 ^ 32 → 0 < n
      → LieWithin q.first q.end (bytes_of_width width) n (λ i. reg_of rs1 h + bytes_of_width width * i))
      (record { first = (value_at s rs1).range.lo; end = (value_at s rs1).range.hi + whole_count count * vlenb }) r e
      (λ fits some.
      row_lies (reg_of rs1 h) (bytes_of_width width) n (value_at s rs1).range.lo _ (width_some width) base.lies.low
      (omega (arith, base.lies.high, room)) fits)

  -- elements apart by a stride that is known
  strided_lies : (size m : ℕ) (r : Reach) → 0 < size → m < 2 ^ 32 → strided_reach s size (Some m) (value_at s rs1) (value_at s 32) ≡ Some r
      → r.end ≤ 2 ^ 32 → 0 < config.vl → LieWithin r.first r.end size config.vl (λ i. reg_of rs1 h + m * i)
  unfolding strided_reach rising_reach
  strided_lies size m r some small e = by_sign (nat_lt m (2 ^ 31)) refl e
    where
      a : ValueView
      a = value_at s rs1

      b : ValueView
      b = value_at s 32

      by_sign : (d : Bool) → nat_lt m (2 ^ 31) ≡ d
          → (if d then Some (rising_reach s size m a b) else falling_reach s size (2 ^ 32 - m) a b) ≡ Some r
          → r.end ≤ 2 ^ 32 → 0 < config.vl → LieWithin r.first r.end size config.vl (λ i. reg_of rs1 h + m * i)
      by_sign true f g =
          there (λ (q : Reach). q.end ≤ 2 ^ 32 → 0 < config.vl → LieWithin q.first q.end size config.vl (λ i. reg_of rs1 h + m * i))
          (rising_reach s size m a b) r g
          (λ fits more.
          rising_lies (reg_of rs1 h) size m config.vl (value_at s rs1).range.lo _ some base.lies.low
          (rising_end s v holds.atoms (length s.atoms) a b (reg_of rs1 h) config.vl base vl_is size m more small) fits)
      by_sign false f g = λ fits more.
          let big : 2 ^ 31 ≤ m = grind (arith, nat_tests) in
          let whole : 2 ^ 32 - m + m ≡ 2 ^ 32 = omega (arith, small) in
          let ends = falling_first s v holds.atoms (length s.atoms) a b (reg_of rs1 h) config.vl base vl_is size (2 ^ 32 - m) m r (omega (arith, big)) whole g in
          falling_lies (reg_of rs1 h) size (2 ^ 32 - m) m config.vl r.first r.end whole (omega (arith, base.lies.high, base.lies.fits))
          ends.0 ends.1 (omega (arith, ends.2, base.lies.high))

  stride_lies : (width : Width) (rs2 : ℕ) (masked : Bool) → rs2 < 32 → LieAt (Strided width rs2 masked) (reg_of rs2 h)
  unfolding reach_at place_at data_at strided_reach
  stride_lies width rs2 masked l r e = by_stride (known_of (value_at s rs2).range) refl e
    where
      by_stride : (o : Option ℕ) → known_of (value_at s rs2).range ≡ o
          → strided_reach s (bytes_of_width width) o (value_at s rs1) (value_at s 32) ≡ Some r
          → r.end ≤ 2 ^ 32 → 0 < config.vl
          → LieWithin r.first r.end (bytes_of_width width) config.vl (λ i. reg_of rs1 h + reg_of rs2 h * i)
      by_stride None f g = cc
      by_stride (Some m) f g =
          let stride = register_holds s v h config holds rs2 l in
          let is : reg_of rs2 h ≡ m = known_is (value_at s rs2).range (reg_of rs2 h) m stride.lies f in
          subst (λ (k : ℕ). r.end ≤ 2 ^ 32 → 0 < config.vl → LieWithin r.first r.end (bytes_of_width width) config.vl (λ i. reg_of rs1 h + k * i))
          (sym is)
          (strided_lies (bytes_of_width width) m r (width_some width) (omega (arith, is, stride.lies.high, stride.lies.fits)) g)

  -- elements as far away as indices say, where the facts on these are true
  indices_at : (width : Width) (vs2 : ℕ) (ordered masked : Bool) → config.vl ≤ vlmax_of vlenb u
      → AllByRecursion (IsTrueOf vlenb config.vl file) facts → ((k : ℕ) → get_or file k 0 < 256)
      → Lie s vlenb u facts setup (Indexed width vs2 ordered masked) values rs1 (reg_of rs1 h) 0 file
  unfolding reach_at place_at data_at
  indices_at width vs2 ordered masked within true_of bytes r e =
      let size = bytes_of_width u.sew in
      let i = source_range u (value_at s 32).range vs2 (Fixed width) facts in
      let group = group_at setup vs2 (Fixed width) in
      let index : ℕ → ℕ = λ k. slice_index (body_of vlenb group file) k in
      let lies = source_lies vlenb u config.vl (value_at s 32).range vs2 width file vl_is.lies.high within facts true_of bytes in
      there (λ (q : Reach). q.end ≤ 2 ^ 32 → 0 < config.vl → LieWithin q.first q.end size config.vl (λ k. reg_of rs1 h + index k))
      (indexed_reach size (value_at s rs1).range i) r e
      (λ fits some.
      indexed_lies (reg_of rs1 h) i.lo i.hi size config.vl ((value_at s rs1).range.lo + i.lo) ((value_at s rs1).range.hi + i.hi + size) index
      (width_some u.sew)
      (λ k l. subst (λ (z : ℕ). i.lo ≤ z) (sym (element_is vlenb group file k l)) (lies k l).0)
      (λ k l. subst (λ (z : ℕ). z ≤ i.hi) (sym (element_is vlenb group file k l)) (lies k l).1)
      (omega (arith, base.lies.low)) (omega (arith, base.lies.high)) fits)

  indices_lie : (width : Width) (vs2 : ℕ) (ordered masked : Bool) → t ≡ u → config.vl ≤ vlmax_of vlenb u
      → AllByRecursion (IsTrueOf vlenb config.vl file) facts → ((k : ℕ) → get_or file k 0 < 256)
      → LieAt (Indexed width vs2 ordered masked) 0
  indices_lie width vs2 ordered masked same within true_of bytes =
      subst (λ (z : Vtype). Lie s vlenb z facts setup (Indexed width vs2 ordered masked) values rs1 (reg_of rs1 h) 0 file) (sym same)
      (indices_at width vs2 ordered masked within true_of bytes)

  -- where vl is 0 there are no elements but of whole registers
  empty : (place : Addressing) → is_whole place ≡ false → config.vl ≡ 0 → (data_at vlenb setup place values).vl ≡ 0
  unfolding is_whole data_at
  empty (InARow width masked) e none = none
  empty (Strided width rs2 masked) e none = none
  empty (Indexed width vs2 ordered masked) e none = none
  empty Mask e none = omega (arith, none)
  empty (Whole width count) e none = cc

  -- a place that passes, where its elements lie in its reach
  place_passes : (direction : Direction) (place : Addressing) (stride : ℕ) (zones : List Zone) (m : Memory) → HasZones zones m
      → LieAt place stride → check_at vlenb t s facts zones direction place rs1 ≡ Ok tt
      → first_refused (accesses_at vlenb setup direction place values (reg_of rs1 h) stride file) m ≡ None
  place_passes direction place stride zones m has lie e = by_count (data_at vlenb setup place values).vl refl
    where
      count : ℕ
      count = (data_at vlenb setup place values).vl

      active : List Bool
      active = active_of vlenb (is_masked place) (data_at vlenb setup place values).vl file

      Passes : Type 0
      Passes = first_refused (accesses_at vlenb setup direction place values (reg_of rs1 h) stride file) m ≡ None

      by_allowed : 0 < count → IsAllowed direction (reach_at vlenb t s facts place (value_at s rs1)) zones → Passes
      by_allowed some a =
          none_refused (right_of direction) (data_at vlenb setup place values).bytes count a.reach.first a.reach.end
          (place_at vlenb setup place (reg_of rs1 h) stride file) active zones m has a.inside
          (active_length vlenb count (is_masked place) file)
          (lie a.reach a.is (inside_fits (right_of direction) a.reach.first a.reach.end zones m has a.inside) some)

      by_test : (d : Bool) → (not (is_whole place) && ((value_at s 32).range.hi == 0)) ≡ d → 0 < count
          → (if d then Ok tt else reach_allowed direction (reach_at vlenb t s facts place (value_at s rs1)) zones) ≡ Ok tt → Passes
      by_test true f some g =
          let part : is_whole place ≡ false = grind (arith, nat_tests) in
          let zero_is : (value_at s 32).range.hi ≡ 0 = grind (arith, nat_tests) in
          absurd (omega (arith, some, empty place part (omega (arith, zero_is, vl_is.lies.high))))
      by_test false f some g = by_allowed some (allowed_is direction (reach_at vlenb t s facts place (value_at s rs1)) zones tt g)

      by_count : (n : ℕ) → n ≡ count → Passes
      by_count zero f =
          no_elements (right_of direction) (data_at vlenb setup place values).bytes (place_at vlenb setup place (reg_of rs1 h) stride file) active m
          (active_length vlenb count (is_masked place) file ∙ sym f)
      by_count (suc n) f = by_test (not (is_whole place) && ((value_at s 32).range.hi == 0)) refl (omega (arith, f)) e

-- ---- the vector type

-- vl is at most VLMAX of the type that an instruction works under
length_fits : (vlenb : ℕ) (config : Vconfig) (o : Option Vtype) → MatchOption o (config ≡ no_config) (λ t. config.vl ≤ vlmax_of vlenb t)
    → config.vl ≤ vlmax_of vlenb (type_in o)
length_fits vlenb config None h = (let none : config.vl ≡ 0 = ap (λ (c : Vconfig). c.vl) h in omega (arith, none))
length_fits vlenb config (Some t) h = h

-- an indexed access is not legal where vill is set
not_operands : (direction : Direction) (values : ℕ) (width : Width) (vs2 : ℕ) (ordered masked : Bool)
    → are_operands_legal (vtype_of vill) (needs_of_place (Indexed width vs2 ordered masked) direction values) ≡ false
unfolding are_operands_legal is_operand_legal needs_of_place access_operands vtype_of
not_operands Load values width vs2 ordered masked = refl
not_operands Store values width vs2 ordered masked = refl

not_legal : (insn : mem.VMem) (width : Width) (vs2 : ℕ) (ordered masked : Bool) → insn.place ≡ Indexed width vs2 ordered masked
    → is_legal no_config (class.VMem insn) ≡ false
unfolding is_legal needs_of needs_of_access
not_legal insn width vs2 ordered masked e =
    ap (λ (place : Addressing). are_operands_legal (vtype_of vill) (needs_of_place place insn.direction insn.values)) e
    ∙ not_operands insn.direction insn.values width vs2 ordered masked

abbrev refuse : Why → Result (Unit {0}) Why
refuse why = Err why

-- so the type under which an indexed access passes is the one that there is
same_type : (vtype : Option ℕ) (config : Vconfig) (insn : mem.VMem) (width : Width) (vs2 : ℕ) (ordered masked : Bool)
    → IfSome vtype (λ b. config.vtype ≡ b) → legal_check vtype (class.VMem insn) ≡ Ok tt
    → insn.place ≡ Indexed width vs2 ordered masked → type_in (known_type vtype) ≡ type_in (vtype_of config.vtype)
unfolding legal_check
same_type (Some b) config insn width vs2 ordered masked is legal e = ap (λ (n : ℕ). type_in (vtype_of n)) (sym is)
same_type None config insn width vs2 ordered masked is legal e =
    refused (needs_vtype (class.VMem insn)) (rw (not_legal insn width vs2 ordered masked e) at legal)
  where
    refused : (d : Bool) → (if d then refuse VtypeUnknown else refuse IllegalWord) ≡ Ok tt
        → type_in (known_type None) ≡ type_in (vtype_of config.vtype)
    refused true f = cc
    refused false f = cc

-- ---- the law

pub transfers_pass : TransfersArePermitted
unfolding transfer_check accesses_of IsConfig
transfers_pass e n a s insn held fields legal passed =
    place_passes vlenb a.numbers v s.hart s.vectors.config a.groups s.vectors.agnostic t u insn.rs1 insn.values s.vectors.registers
    known.known fields.1 insn.direction insn.place (stride_of insn.place s.hart) a.zones s.memory
    (subst (λ (zones : List Zone). HasZones zones s.memory) (sym known.zones) known.proper.zones)
    (by_place insn.place refl fields.2)
    (subst (λ (k : ℕ). check_at k t a.numbers a.groups a.zones insn.direction insn.place insn.rs1 ≡ Ok tt) known.vlenb passed)
  where
    vlenb : ℕ
    vlenb = vlenb_in e

    v : ℕ → ℕ
    v = held.numbers

    t : Vtype
    t = type_in (known_type a.vtype)

    u : Vtype
    u = type_in (vtype_of s.vectors.config.vtype)

    known : IsKnown e held.numbers n a s
    known = held.known

    within : s.vectors.config.vl ≤ vlmax_of (vlenb_in e) (type_in (vtype_of s.vectors.config.vtype))
    within = length_fits (vlenb_in e) s.vectors.config (vtype_of s.vectors.config.vtype) known.proper.vectors.config

    LieHere : Addressing → Type 0
    LieHere place =
        Lie a.numbers vlenb t a.groups (setup_of u s.vectors) place insn.values insn.rs1 (reg_of insn.rs1 s.hart) (stride_of place s.hart)
        s.vectors.registers

    by_place : (place : Addressing) → insn.place ≡ place → PlaceFits place insn → LieHere place
    by_place (InARow width masked) is fit =
        unit_lies vlenb a.numbers v s.hart s.vectors.config a.groups s.vectors.agnostic t u insn.rs1 insn.values s.vectors.registers
        known.known fields.1 width masked
    by_place (Strided width rs2 masked) is fit =
        stride_lies vlenb a.numbers v s.hart s.vectors.config a.groups s.vectors.agnostic t u insn.rs1 insn.values s.vectors.registers
        known.known fields.1 width rs2 masked fit
    by_place (Indexed width vs2 ordered masked) is fit =
        indices_lie vlenb a.numbers v s.hart s.vectors.config a.groups s.vectors.agnostic t u insn.rs1 insn.values s.vectors.registers
        known.known fields.1 width vs2 ordered masked
        (same_type a.vtype s.vectors.config insn width vs2 ordered masked known.vtype legal is) within known.groups
        known.proper.registers.bytes
    by_place Mask is fit =
        mask_lies vlenb a.numbers v s.hart s.vectors.config a.groups s.vectors.agnostic t u insn.rs1 insn.values s.vectors.registers
        known.known fields.1
    by_place (Whole width count) is fit =
        whole_lies vlenb a.numbers v s.hart s.vectors.config a.groups s.vectors.agnostic t u insn.rs1 insn.values s.vectors.registers
        known.known fields.1 width count
