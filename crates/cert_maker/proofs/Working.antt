-- Where elements are worked on, and where the step is made, what is known goes on.
use Rattle.std.proofs.Common.{◌≡◌, ◌≢◌, ℕ, ◌+◌, ◌-◌, ◌*◌, ◌%◌, ◌^◌, ◌<◌, ◌≤◌, Bool, true, false, refl, sym, ap, ◌∙◌, subst, arith, Option, Some, None, List, [], ◌∷◌, length, min, max}
use Rattle.std.proofs.Common.{get_or-set_same}
use Rattle.std.specs.Prelude.{Ok, if◌then◌else◌, ◌==◌, ◌&&◌, not, nat_le, nat_lt, slice_set}
use Rattle.std.specs.List.{slice_get}
use Rattle.std.specs.Option.{option_map_or}
use Rattle.std.proofs.lemmas.Bool.{not-true, lt-ltb, and_parts, eqb-true}
use Rattle.std.proofs.lemmas.Bool.Decides.{nat_tests}
use Rattle.linear_facts.specs.declared.ranges.Range.{Range}
use Rattle.linear_facts.specs.Forms.{within, atom_form}
use Rattle.linear_facts.specs.Sums.{range_of_form}
use Rattle.linear_facts.specs.LoopForms.{term, IsSize}
use Rattle.rv_decode.specs.Encodings.{FieldsFit}
use Rattle.rv_decode.specs.declared.instructions.Condition.TheVariants.{Ne}
use Rattle.rv_decode.specs.declared.instructions.Direction.{Direction}
use Rattle.rv_decode.specs.declared.instructions.Direction.TheVariants as direction
use Rattle.rv_decode.specs.declared.instructions.Insn.{Insn}
use Rattle.rv_decode.specs.declared.instructions.Insn.TheVariants.{Scalar, VMem}
use Rattle.rv_decode.specs.declared.instructions.Addressing.{Addressing}
use Rattle.rv_decode.specs.declared.instructions.Addressing.TheVariants as place
use Rattle.rv_decode.specs.declared.instructions.ScalarInsn.TheVariants.{Branch, ShiftImmediate}
use Rattle.rv_decode.specs.declared.instructions.ShiftOp.{ShiftOp}
use Rattle.rv_decode.specs.declared.instructions.ShiftOp.TheVariants.{Slli}
use Rattle.rv_decode.specs.declared.instructions.VMem as mem
use Rattle.rv_decode.specs.declared.instructions.Width.{Width}
use Rattle.rv_decode.specs.declared.instructions.Width.TheVariants.{W8, W16, W32}
use Rattle.region_mem.specs.declared.faults.Right.TheVariants.{Read, Write}
use Rattle.region_mem.specs.declared.parameter.Mode.{Mode}
use Rattle.region_mem.specs.declared.parameter.Mode.TheVariants as mode
use Rattle.region_mem.specs.declared.parameter.Param.{Param}
use Rattle.region_mem.specs.declared.parameter.Param.TheVariants as parameter
use Rattle.vreg_groups.specs.Legality.{is_legal}
use Rattle.rv_decode.specs.Instructions.{bytes_of_width}
use Rattle.vreg_groups.specs.VectorType.{type_in}
use Rattle.abs_state.specs.declared.state.Way.TheVariants.{To}
use Rattle.abs_domain.specs.declared.values.Effect.{Effect}
use Rattle.abs_domain.specs.Values.{ValueView, computed_range, or_own}
use Rattle.abs_domain.specs.Effects.{shift_effect, left_shift_by, product_effect}
use Rattle.abs_transfer.specs.Facts.{known_type}
use Rattle.abs_domain.specs.Numbers.{NumbersView, table_of, value_at, with_value, with_short, with_computed, with_effect, with_result}
use Rattle.abs_state.specs.State.{AbstractView}
use Rattle.abs_transfer.specs.Scalar.{scalar_after}
use Rattle.abs_state.specs.StepLaws.{jumps}
use Rattle.abs_state.specs.After.{after_of, taken, way_of, next_word, access_check, vector_numbers}
use Rattle.abs_domain.specs.Zones.{may_write, zone_right, load_allowed, store_allowed}
use Rattle.abs_transfer.specs.Accesses.{unit_reach, reach_at, reach_allowed, is_whole, transfer_check}
use Rattle.abs_domain.specs.StateLemmas.{this_value, other_value}
use Rattle.cert_maker.specs.declared.loops.Loop.{Loop}
use Rattle.cert_maker.specs.declared.loops.Reading.{Reading}
use Rattle.cert_maker.specs.declared.loops.Reading.TheVariants.{Works, Moves, Back, Through}
use Rattle.cert_maker.specs.Loops.{size_of, is_flagged, is_arithmetic, is_vector_class, is_plain, is_buffer_for, may_be, parameter_in, is_access, with_pointer, moved_by, shift_of, step_by, works_on, back_by, next_of, is_through}
use Rattle.cert_maker.specs.Certificates.{base_of}
use Rattle.cert_maker.specs.Known.{Round, IsRound, HasRoom, IsThere, IsStepOf, IsPartOf, LeadsTo, InWorks, InMoves, IsWithin, NumbersAre, known, bytes_of, done_of, atom_of, is_pointer}
use Rattle.cert_maker.specs.Laws.{Keeps, LoopsGoOn}
use Rattle.cert_maker.proofs.Accesses.{IsThere as Reached, reach_is, reaches-end, not_zero}
use Rattle.cert_maker.proofs.Bodies.{legal_there, not_arithmetic, goes_on, body-keeps}
use Rattle.cert_maker.proofs.Equalities.{scaled_atom}
use Rattle.cert_maker.proofs.Flags.{flag_at}
use Rattle.cert_maker.proofs.Leading.{step_leads}
use Rattle.cert_maker.proofs.Moves.{computed_within}
use Rattle.cert_maker.proofs.Going.{GoesOn, test_of, within_on, atoms_stay, done_some, done_fits, one_done, moved_at, moved_low, moved_on}
use Rattle.linear_facts.specs.LoopRangeLemmas.{by_size}

least_end : (a base b size : ℕ) → b ≤ size → min a (base + b) ≤ base + size
least_end a base b size l = omega (arith, l)

reads : (base size : ℕ) (access : Mode)
    → zone_right Read record { first = base; end = base + size; read = true; write = may_write access } ≡ true
unfolding zone_right
reads base size access = refl

writes : (base size : ℕ) (access : Mode) → may_be direction.Store access ≡ true
    → zone_right Write record { first = base; end = base + size; read = true; write = may_write access } ≡ true
unfolding zone_right may_be
writes base size mode.Read e = cc
writes base size mode.ReadWrite e = refl

-- ---- words that keep all numbers

within_kept : (k : Round) (pc : ℕ) (a b : AbstractView) → IsWithin k pc a → Keeps pc a b → IsWithin k (pc + 4) b
within_kept k pc a b w keeps = record {
  zones = keeps.zones ∙ w.zones;
  vtype = keeps.vtype ∙ w.vtype;
  budget = keeps.budget ∙ w.budget;
  paid = keeps.paid ∙ w.paid;
  second_paid = keeps.second_paid ∙ w.second_paid;
  words = (let one = keeps.words in let at = w.words in omega (arith, one, at));
}

-- arithmetic is no jump
not_jump : (insn : Insn) → is_arithmetic insn ≡ true → jumps insn ≡ false
unfolding jumps is_vector_class
not_jump (Scalar insn) e = not_arithmetic (Scalar insn) refl e
not_jump other e = refl

module _ (k : Round) (is : IsRound k) (pc : ℕ) (a : AbstractView) (inside : IsWithin k pc a) where
  pub kept : (insn : Insn) (next : Reading) → jumps insn ≡ false
      → (b : AbstractView) × (after_of pc insn a ≡ Ok b) × Keeps pc a b → NumbersAre k next a.numbers → GoesOn k pc insn a next
  kept insn next jump goes h = (
    goes.0,
    goes.1,
    jump,
    (within_kept k pc a goes.0 inside goes.2, subst (λ (s : NumbersView). NumbersAre k next s) (sym goes.2.numbers) h),
  )

  -- ---- an access

  abbrev w : ℕ
  w = size_of k.loop

  module _ (h : InWorks k a.numbers) where
    reached : (q : ℕ) → q < 8 → is_pointer k.loop q ≡ true → (room : HasRoom k.params k.loop q)
        → unit_reach a.numbers w (value_at a.numbers (q + 10)) (value_at a.numbers 32)
        ≡ record { first = base_of k.params q; end = min (base_of k.params q + w * k.loop.most - w + w * done_of k) (base_of k.params q + w * k.loop.most) }
    reached q l p room =
        reach_is a.numbers (base_of k.params q) w k.loop.count (atom_of k.loop) 41 k.loop.most (done_of k) _ (value_at a.numbers (q + 10)) (value_at a.numbers 32)
        (there (h.pointers q l p)) (one_done k is) (done_fits k is)
      where
        there : IsThere k a.numbers q
            → Reached a.numbers (base_of k.params q) w k.loop.count (atom_of k.loop) 41 k.loop.most (done_of k)
            (base_of k.params q + w * k.least - w * (k.loop.most - k.limit)) (value_at a.numbers (q + 10)) (value_at a.numbers 32)
        there at = record {
          size = is.size;
          first = h.atoms.loop.first;
          second = h.atoms.loop.second;
          form = ap (λ (v : ValueView). v.form) at;
          range = ap (λ (v : ValueView). v.range) at;
          vl_form = ap (λ (v : ValueView). v.form) h.vl;
          vl_range = ap (λ (v : ValueView). v.range) h.vl;
          moved = moved_at k is a.numbers h.atoms q room;
          low = moved_low k is q;
          some = done_some k is;
          most = omega arith;
          fits = room.high;
        }

    ends : (q size : ℕ) → bytes_of k.loop ≤ size
        → min (base_of k.params q + w * k.loop.most - w + w * done_of k) (base_of k.params q + w * k.loop.most) ≤ base_of k.params q + size
    ends q size le = least_end _ _ _ _ le

    allowed : (q : ℕ) (d : Direction) → q < 8 → is_pointer k.loop q ≡ true → (room : HasRoom k.params k.loop q) → may_be d room.access ≡ true
        → reach_allowed d (Some (unit_reach a.numbers w (value_at a.numbers (q + 10)) (value_at a.numbers 32))) a.zones ≡ Ok tt
    unfolding reach_allowed load_allowed store_allowed
    allowed q direction.Load l p room may =
        rw (
          reached q l p room,
          inside.zones,
          reaches-end k.image k.params Read q (base_of k.params q) _ room.size room.access room.is room.address (ends q room.size room.room) (reads (base_of k.params q) room.size room.access),
        ) refl
    allowed q direction.Store l p room may =
        rw (
          reached q l p room,
          inside.zones,
          reaches-end k.image k.params Write q (base_of k.params q) _ room.size room.access room.is room.address (ends q room.size room.room) (writes (base_of k.params q) room.size room.access may),
        ) refl

    -- whatever the test of vl says
    by_place : (p : Addressing) (d : Direction) (q : ℕ) → is_plain k.loop.sew p ≡ true
        → reach_allowed d (Some (unit_reach a.numbers w (value_at a.numbers (q + 10)) (value_at a.numbers 32))) a.zones ≡ Ok tt
        → (if not (is_whole p) && ((value_at a.numbers 32).range.hi == 0) then Ok tt
        else reach_allowed d (reach_at a.vlenb (type_in (known_type a.vtype)) a.numbers a.groups p (value_at a.numbers (q + 10))) a.zones) ≡ Ok tt
    unfolding is_plain is_whole reach_at
    by_place (place.Unit width masked) d q plain ok = by_test ((value_at a.numbers 32).range.hi == 0)
      where
        same : bytes_of_width width ≡ w
        same = eqb-true _ _ (and_parts _ _ plain).0

        by_test : (t : Bool)
            → (if t then Ok tt else reach_allowed d (Some (unit_reach a.numbers (bytes_of_width width) (value_at a.numbers (q + 10)) (value_at a.numbers 32))) a.zones) ≡ Ok tt
        by_test true = refl
        by_test false =
            subst (λ (b : ℕ). reach_allowed d (Some (unit_reach a.numbers b (value_at a.numbers (q + 10)) (value_at a.numbers 32))) a.zones ≡ Ok tt) (sym same) ok
    by_place other d q plain ok = cc

    access_ok : (insn : mem.VMem) → is_plain k.loop.sew insn.place ≡ true → 10 ≤ insn.rs1 → insn.rs1 < 18 → is_pointer k.loop (insn.rs1 - 10) ≡ true
        → ((room : HasRoom k.params k.loop (insn.rs1 - 10)) → may_be insn.direction room.access ≡ true) → access_check a (VMem insn) ≡ Ok tt
    unfolding access_check transfer_check
    access_ok insn plain l g p may =
        let at : insn.rs1 - 10 + 10 ≡ insn.rs1 = omega (arith, l) in
        let small : insn.rs1 - 10 < 8 = omega (arith, g) in
        let room = is.room (insn.rs1 - 10) small p in
        subst (λ (r : ℕ). (if not (is_whole insn.place) && ((value_at a.numbers 32).range.hi == 0) then Ok tt
        else reach_allowed insn.direction (reach_at a.vlenb (type_in (known_type a.vtype)) a.numbers a.groups insn.place (value_at a.numbers r)) a.zones) ≡ Ok tt) at
        (by_place insn.place insn.direction (insn.rs1 - 10) plain (allowed (insn.rs1 - 10) insn.direction small p room (may room)))

    pub access_goes : (insn : mem.VMem) (next : Reading) → is_legal record { vtype = k.loop.vtype; vl = 0 } (VMem insn) ≡ true
        → is_plain k.loop.sew insn.place ≡ true → 10 ≤ insn.rs1 → insn.rs1 < 18 → is_pointer k.loop (insn.rs1 - 10) ≡ true
        → ((room : HasRoom k.params k.loop (insn.rs1 - 10)) → may_be insn.direction room.access ≡ true) → NumbersAre k next a.numbers
        → GoesOn k pc (VMem insn) a next
    unfolding after_of vector_numbers jumps
    access_goes insn next legal plain l g p may numbers =
        kept (VMem insn) next refl
        (goes_on pc (VMem insn) a (legal_there k.loop.vtype (VMem insn) a.vtype inside.vtype legal) (access_ok insn plain l g p may) refl refl) numbers

-- a register that holds a buffer of at least `bytes` bytes
buffer_in : (params : List Param) (r bytes : ℕ) (d : Direction) → option_map_or (is_buffer_for d bytes) (parameter_in params r) false ≡ true
    → (10 ≤ r) × (r < 18) × (option_map_or (is_buffer_for d bytes) (slice_get params (r - 10)) false ≡ true)
unfolding parameter_in
buffer_in params r bytes d e = by_tests (nat_le 10 r) (nat_lt r 18) refl refl e
  where
    by_tests : (t u : Bool) → nat_le 10 r ≡ t → nat_lt r 18 ≡ u
        → option_map_or (is_buffer_for d bytes) (if t && u then slice_get params (r - 10) else None) false ≡ true
        → (10 ≤ r) × (r < 18) × (option_map_or (is_buffer_for d bytes) (slice_get params (r - 10)) false ≡ true)
    by_tests true true x y f = (grind (arith, nat_tests), grind (arith, nat_tests), f)
    by_tests true false x y f = cc
    by_tests false u x y f = cc

may_there : (bytes size : ℕ) (d : Direction) (access : Mode) (o : Option Param) → o ≡ Some (parameter.Buffer access size)
    → option_map_or (is_buffer_for d bytes) o false ≡ true → may_be d access ≡ true
unfolding is_buffer_for
may_there bytes size d access o is e =
    let there : option_map_or (is_buffer_for d bytes) (Some (parameter.Buffer access size)) false ≡ true =
    subst (λ (x : Option Param). option_map_or (is_buffer_for d bytes) x false ≡ true) is e in
    (and_parts _ _ there).1

-- ---- the step

-- a shift by the logarithm of an element's bytes
shifted : (sew : Width) (amount : ℕ) → shift_of sew ≡ Some amount → 2 ^ (amount % 32) ≡ bytes_of_width sew
unfolding shift_of
shifted W8 amount e = cc
shifted W16 amount e = rw (sym (same 1 amount e)) refl
  where
    same : (x y : ℕ) → Some x ≡ Some y → x ≡ y
    same x y f = cc
shifted W32 amount e = rw (sym (same 2 amount e)) refl
  where
    same : (x y : ℕ) → Some x ≡ Some y → x ≡ y
    same x y f = cc

one_byte : (sew : Width) → shift_of sew ≡ None → bytes_of_width sew ≡ 1
unfolding shift_of
one_byte W8 e = refl
one_byte W16 e = cc
one_byte W32 e = cc

-- what two ranges share has a number in it
filled : (own : Range) (o : Option Range) → own.lo ≤ own.hi → (computed_range (Some own) o).lo ≤ (computed_range (Some own) o).hi
unfolding computed_range
filled own None l = l
filled own (Some r) l = by_test (nat_le (max own.lo r.lo) (min own.hi r.hi)) refl
  where
    by_test : (t : Bool) → nat_le (max own.lo r.lo) (min own.hi r.hi) ≡ t
        → (or_own own (if t then Some record { lo = max own.lo r.lo; hi = min own.hi r.hi } else None)).lo
        ≤ (or_own own (if t then Some record { lo = max own.lo r.lo; hi = min own.hi r.hi } else None)).hi
    by_test true e = grind (arith, nat_tests)
    by_test false e = l

-- a register is shifted into another one
module _ (s : NumbersView) (t w m : ℕ) where
  step_value : ValueView
  step_value = record {
    form = record { constant = 0; terms = term 41 w ∷ [] };
    range = computed_range (Some record { lo = w * 1; hi = w * m }) (range_of_form (table_of s) record { constant = 0; terms = term 41 w ∷ [] });
  }

  shift_is : (amount : ℕ) → 2 ^ (amount % 32) ≡ w → shift_effect Slli (value_at s t) amount ≡ product_effect w (value_at s t)
  unfolding shift_effect left_shift_by
  shift_is amount by = ap (λ (x : ℕ). product_effect x (value_at s t)) by

  product_is : (rd : ℕ) → 0 < rd → IsSize w → w * 1 < 2 ^ 32 → w * m < 2 ^ 32 → value_at s t ≡ known (atom_form 41) 1 m
      → with_result rd (product_effect w (value_at s t)) s ≡ with_value rd step_value s
  unfolding with_result with_effect product_effect with_computed with_short within step_value
  product_is rd some size one all at =
      rw (at, not_zero rd some, scaled_atom w 41 size, lt-ltb (w * 1) (2 ^ 32) one, lt-ltb (w * m) (2 ^ 32) all) refl

  step_is : (rd amount : ℕ) → 0 < rd → IsSize w → w * 1 < 2 ^ 32 → w * m < 2 ^ 32 → value_at s t ≡ known (atom_form 41) 1 m → 2 ^ (amount % 32) ≡ w
      → with_result rd (shift_effect Slli (value_at s t) amount) s ≡ with_value rd step_value s
  step_is rd amount some size one all at by =
      ap (λ (e : Effect). with_result rd e s) (shift_is amount by) ∙ product_is rd some size one all at

  step_low : w ≤ w * m → w ≤ step_value.range.lo
  unfolding step_value
  step_low l = (computed_within record { lo = w * 1; hi = w * m } _ w (w * m) (omega arith) (omega arith)).0

  step_high : step_value.range.hi ≤ w * m
  unfolding step_value
  step_high = (computed_within record { lo = w * 1; hi = w * m } _ (w * 1) (w * m) (omega arith) (omega arith)).1

  step_filled : w ≤ w * m → step_value.range.lo ≤ step_value.range.hi
  unfolding step_value
  step_filled l = filled record { lo = w * 1; hi = w * m } _ (omega (arith, l))

  step_form : step_value.form ≡ record { constant = 0; terms = term 41 w ∷ [] }
  unfolding step_value
  step_form = refl

at_least : (b : ℕ) → b ≡ 1 → b ≤ 1
at_least b e = omega (arith, e)

one_by : (b m : ℕ) → b ≡ 1 → m ≤ b * m
one_by b m e = rw e (omega arith)

module _ (k : Round) (is : IsRound k) (s : NumbersView) (h : InWorks k s) where
  abbrev bytes : ℕ
  bytes = size_of k.loop

  range_fits : (bytes * 1 < 2 ^ 32) × (bytes * done_of k < 2 ^ 32)
  range_fits =
      let short = is.short in (
        by_size (λ (x : ℕ). x * 1 < 2 ^ 32) bytes is.size (omega arith) (omega arith) (omega arith),
        by_size (λ (x : ℕ). x * done_of k < 2 ^ 32) bytes is.size (omega (arith, short)) (omega (arith, short)) (omega (arith, short)),
      )

  made_value : ValueView
  made_value = step_value s k.loop.length bytes (done_of k)

  made : (rd : ℕ) → value_at (with_value rd made_value s) rd ≡ made_value → IsStepOf k rd (with_value rd made_value s)
  unfolding made_value
  made rd here = record {
    form = ap (λ (v : ValueView). v.form) here ∙ step_form s k.loop.length bytes (done_of k);
    least = subst (λ (v : ValueView). bytes ≤ v.range.lo) (sym here) (step_low s k.loop.length bytes (done_of k) (one_done k is));
    filled = subst (λ (v : ValueView). v.range.lo ≤ v.range.hi) (sym here) (step_filled s k.loop.length bytes (done_of k) (one_done k is));
    most = subst (λ (v : ValueView). v.range.hi ≤ bytes * done_of k) (sym here) (step_high s k.loop.length bytes (done_of k));
  }

  -- the numbers where the step is made
  step_moves : (rd : ℕ) → 2 ≤ rd → rd < 32 → rd ≢ k.loop.count → rd ≢ k.loop.length
      → ((q : ℕ) → q < 8 → is_pointer k.loop q ≡ true → q + 10 ≢ rd) → InMoves k rd k.loop.pointers (with_value rd made_value s)
  step_moves rd low high not_count not_length apart = record {
    atoms = atoms_stay k s rd made_value h.atoms low;
    whole = record {
      count = other_value s rd k.loop.count made_value (λ e. not_count (sym e)) ∙ h.whole.count;
      length = other_value s rd k.loop.length made_value (λ e. not_length (sym e)) ∙ h.whole.length;
    };
    step_is = made rd here;
    apart = apart;
    unmoved = λ q l e. (e, other_value s rd (q + 10) made_value (apart q l e) ∙ h.pointers q l e);
    moved = λ q l p none. clash (sym p ∙ none);
  }
    where
      clash : {A : Type 0} → true ≡ false → A
      clash e = cc

      here : value_at (with_value rd made_value s) rd ≡ made_value
      here = this_value s rd made_value (let n = h.atoms.forms in omega (arith, n, high)) (let n = h.atoms.ranges in omega (arith, n, high))

  -- at one byte vl is the step
  pub bytes_move : bytes ≡ 1 → InMoves k k.loop.length k.loop.pointers s
  bytes_move one = record {
    atoms = h.atoms;
    whole = h.whole;
    step_is = record {
      form = subst (λ (b : ℕ). (value_at s k.loop.length).form ≡ record { constant = 0; terms = term 41 b ∷ [] }) (sym one)
          (ap (λ (v : ValueView). v.form) h.whole.length);
      least = subst (λ (v : ValueView). bytes ≤ v.range.lo) (sym h.whole.length) (at_least bytes one);
      filled = subst (λ (v : ValueView). v.range.lo ≤ v.range.hi) (sym h.whole.length) (done_some k is);
      most = subst (λ (v : ValueView). v.range.hi ≤ bytes * done_of k) (sym h.whole.length) (one_by bytes (done_of k) one);
    };
    apart = is.apart;
    unmoved = λ q l e. (e, h.pointers q l e);
    moved = λ q l p none. clash (sym p ∙ none);
  }
    where
      clash : {A : Type 0} → true ≡ false → A
      clash e = cc

  set : (rd amount : ℕ) → 0 < rd → 2 ^ (amount % 32) ≡ bytes
      → with_result rd (shift_effect Slli (value_at s k.loop.length) amount) s ≡ with_value rd made_value s
  unfolding made_value
  set rd amount some by = step_is s k.loop.length bytes (done_of k) rd amount some is.size range_fits.0 range_fits.1 h.whole.length by

  pub shift_moves : (rd amount : ℕ) → 2 ≤ rd → rd < 32 → rd ≢ k.loop.count → rd ≢ k.loop.length
      → ((q : ℕ) → q < 8 → is_pointer k.loop q ≡ true → q + 10 ≢ rd) → 2 ^ (amount % 32) ≡ bytes
      → InMoves k rd k.loop.pointers (with_result rd (shift_effect Slli (value_at s k.loop.length) amount) s)
  shift_moves rd amount low high not_count not_length apart by =
      subst (λ (t : NumbersView). InMoves k rd k.loop.pointers t) (sym (set rd amount (omega (arith, low)) by))
      (step_moves rd low high not_count not_length apart)

-- ---- the words

-- an instruction that shifts by an amount that stands in it
shift_goes : (k : Round) (pc : ℕ) (op : ShiftOp) (rd rs1 amount : ℕ) (a : AbstractView) (next : Reading) → IsWithin k pc a
    → NumbersAre k next (with_result rd (shift_effect op (value_at a.numbers rs1) amount) a.numbers)
    → GoesOn k pc (Scalar (ShiftImmediate op rd rs1 amount)) a next
unfolding after_of taken way_of scalar_after jumps
shift_goes k pc op rd rs1 amount a next w n = (
  record a {
    numbers = with_result rd (shift_effect op (value_at a.numbers rs1) amount) a.numbers;
    words = a.words + 1;
    way = To (next_word pc);
  },
  refl,
  refl,
  (within_on k pc a _ _ w, n),
)

pub differ : (a b : ℕ) → not (a == b) ≡ true → a ≢ b
differ a b e f = clash (not-true _ e) f
  where
    clash : (a == b) ≡ false → a ≡ b → ⊥
    clash g h = grind (arith, nat_tests)

-- what is tested of an access
pub access_parts : (params : List Param) (of : Loop) (insn : mem.VMem) → is_access params of insn ≡ true
    → (is_plain of.sew insn.place ≡ true) × (10 ≤ insn.rs1) × (insn.rs1 < 18)
    × (option_map_or (is_buffer_for insn.direction (of.most * size_of of)) (slice_get params (insn.rs1 - 10)) false ≡ true)
    × (not (insn.rs1 == of.length) ≡ true)
unfolding is_access
access_parts params of insn e =
    let tests = and_parts _ _ e in
    let first = and_parts _ _ tests.0 in
    let there = buffer_in params insn.rs1 (of.most * size_of of) insn.direction tests.1 in
    (first.0, there.0, there.1, there.2, first.1)

-- the register of an access is a pointer of the loop
flagged : (of loop : Loop) (r : ℕ) → 10 ≤ r → r < 18 → length of.pointers ≡ 8 → IsPartOf (with_pointer r of) loop → is_pointer loop (r - 10) ≡ true
unfolding with_pointer
flagged of loop r l g n part =
    part.pointers (r - 10) (omega (arith, g))
    (flag_at (r - 10) (slice_set of.pointers (r - 10) true) (omega (arith, g)) ∙ get_or-set_same of.pointers (r - 10) true false (omega (arith, n, g)))

module _ (k : Round) (is : IsRound k) (pc : ℕ) (a : AbstractView) (inside : IsWithin k pc a) (h : InWorks k a.numbers) where
  stepped : (wanted : Option ℕ) (insn : Insn) (next : Reading) → shift_of k.loop.sew ≡ wanted → FieldsFit insn → step_by k.loop wanted insn ≡ Some next
      → GoesOn k pc insn a next
  unfolding step_by
  stepped None insn next sew fits e =
      moved_on k is pc k.loop.length k.loop.pointers insn next a e inside (bytes_move k is a.numbers h (one_byte k.loop.sew sew))
  stepped (Some wanted) (Scalar (ShiftImmediate Slli rd rs1 amount)) next sew fits e =
      let read = test_of _ (Moves k.loop rd k.loop.pointers) next e in
      let first = and_parts _ _ read.0 in
      let second = and_parts _ _ first.0 in
      let third = and_parts _ _ second.0 in
      let free = and_parts _ _ second.1 in
      let other = and_parts _ _ free.0 in
      let low = and_parts _ _ other.0 in
      let from : rs1 ≡ k.loop.length = eqb-true rs1 k.loop.length third.0 in
      let by : amount ≡ wanted = eqb-true amount wanted third.1 in
      let nonzero = differ rd 0 low.0 in
      let not_one = differ rd 1 low.1 in
      subst (λ (r : Reading). GoesOn k pc (Scalar (ShiftImmediate Slli rd rs1 amount)) a r) read.1
      (shift_goes k pc Slli rd rs1 amount a (Moves k.loop rd k.loop.pointers) inside
      (rw from (shift_moves k is a.numbers h rd amount (two_at rd nonzero not_one) fits.0 (differ rd k.loop.count other.1) (differ rd k.loop.length first.1)
      (λ q l p f. unflagged q rd f p free.1)
      (shifted k.loop.sew amount (sew ∙ ap (λ (x : ℕ). Some x) (sym by))))))
    where
      two_at : (r : ℕ) → r ≢ 0 → r ≢ 1 → 2 ≤ r
      two_at r x y = omega (arith, x, y)

      unflagged : (q r : ℕ) → q + 10 ≡ r → is_pointer k.loop q ≡ true → not (is_flagged r k.loop.pointers) ≡ true → ⊥
      unflagged q r f p g = clash (sym p ∙ (ap (λ (x : ℕ). is_flagged x k.loop.pointers) f ∙ not-true _ g))
        where
          clash : true ≡ false → ⊥
          clash x = cc
  stepped (Some wanted) other next sew fits e = cc

  other_goes : (of : Loop) (insn : Insn) (next : Reading) → IsPartOf of k.loop → (t u : Bool) → is_arithmetic insn ≡ t
      → is_legal record { vtype = of.vtype; vl = 0 } insn ≡ u
      → (if t then (if u then Some (Works of) else None) else step_by of (shift_of of.sew) insn) ≡ Some next → FieldsFit insn → LeadsTo next k.loop
      → GoesOn k pc insn a next
  other_goes of insn next part true true arithmetic legal e fits l =
      kept k is pc a inside insn next (not_jump insn arithmetic)
      (body-keeps pc of.vtype insn a arithmetic (inside.vtype ∙ ap (λ (v : ℕ). Some v) (sym part.alike.vtype)) legal)
      (subst (λ (r : Reading). NumbersAre k r a.numbers) (test_of true (Works of) next e).1 h)
  other_goes of insn next part true false arithmetic legal e fits l = cc
  other_goes of insn next part false u arithmetic legal e fits l =
      let same = step_leads of (shift_of of.sew) insn next k.loop e l in
      stepped (shift_of k.loop.sew) insn next refl fits (subst (λ (o : Loop). step_by o (shift_of o.sew) insn ≡ Some next) same e)

  -- an access, or arithmetic, or the first word behind them
  works_goes : (of : Loop) (insn : Insn) (next : Reading) → FieldsFit insn → works_on k.params of insn ≡ Some next → IsPartOf of k.loop
      → LeadsTo next k.loop → GoesOn k pc insn a next
  unfolding works_on
  works_goes of (VMem insn) next fits e part l =
      let read = test_of _ (Works (with_pointer insn.rs1 of)) next e in
      let tests = and_parts _ _ read.0 in
      let parts = access_parts k.params of insn tests.0 in
      let more : IsPartOf (with_pointer insn.rs1 of) k.loop = subst (λ (r : Reading). LeadsTo r k.loop) (sym read.1) l in
      access_goes k is pc a inside h insn next
      (subst (λ (v : ℕ). is_legal record { vtype = v; vl = 0 } (VMem insn) ≡ true) part.alike.vtype tests.1)
      (subst (λ (s : Width). is_plain s insn.place ≡ true) part.alike.sew parts.0) parts.1 parts.2
      (flagged of k.loop insn.rs1 parts.1 parts.2 (part.flags ∙ is.flags) more)
      (λ room. may_there _ room.size insn.direction room.access _ room.is parts.3)
      (subst (λ (r : Reading). NumbersAre k r a.numbers) read.1 h)
  works_goes of other next fits e part l = other_goes of other next part (is_arithmetic other) (is_legal record { vtype = of.vtype; vl = 0 } other) refl refl e fits l

back_through : {A : Type 0} (of : Loop) (start pc : ℕ) (insn : Insn) (next : Reading) → back_by of start pc insn ≡ Some next → is_through next ≡ false → A
unfolding back_by
back_through of start pc (Scalar (Branch Ne rs1 rs2 offset)) next e going =
    clash (subst (λ (r : Reading). is_through r ≡ false) (sym (test_of _ (Through of) next e).1) going)
  where
    clash : {A : Type 0} → true ≡ false → A
    clash f = cc
back_through of start pc other next e going = cc

pub words-go_on : LoopsGoOn
unfolding next_of
words-go_on k is pc (Works of) next insn a fits e going from to h = works_goes k is pc a h.0 h.1 of insn next fits e from to
words-go_on k is pc (Moves of step left) next insn a fits e going from to h =
    moved_on k is pc step left insn next a (subst (λ (o : Loop). moved_by o step left insn ≡ Some next) from e) h.0 h.1
words-go_on k is pc (Back of) next insn a fits e going from to h = back_through of k.start pc insn next e going
words-go_on k is pc (Through of) next insn a fits e going from to h = cc
