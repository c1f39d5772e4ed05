-- Where pointers are moved and the count is taken on, what is known goes on.
use Rattle.std.proofs.Common.{◌≡◌, ◌≢◌, ℕ, ◌+◌, ◌-◌, ◌*◌, ◌^◌, ◌<◌, ◌≤◌, ◌⊎◌, inl, inr, Bool, true, false, refl, sym, ap, ◌∙◌, subst, arith, Some, None, List, [], ◌∷◌, length, min}
use Rattle.std.proofs.Common.{get_or-set_other}
use Rattle.std.proofs.Math.ListN.{length-set}
use Rattle.std.specs.Prelude.{Ok, if◌then◌else◌, nat_le, slice_set}
use Rattle.std.specs.List.{list_any, slice_get}
use Rattle.std.proofs.lemmas.Bool.{cases_eq, eqb-true, not-true, and_parts}
use Rattle.std.proofs.lemmas.Bool.Decides.{nat_tests}
use Rattle.linear_facts.specs.declared.ranges.Range.{Range}
use Rattle.linear_facts.specs.declared.forms.Term.{Term}
use Rattle.linear_facts.specs.Forms.{scaled, scaled_terms, sum_of, within, atom_form}
use Rattle.linear_facts.specs.Sums.{range_of_form}
use Rattle.linear_facts.specs.LoopForms.{term, IsLoop, moved_form, left_form}
use Rattle.linear_facts.specs.MergingLemmas.{merged-less, merged-left}
use Rattle.linear_facts.specs.LoopRangeLemmas.{moved-range, left-range, by_size}
use Rattle.rv_decode.specs.declared.instructions.Insn.{Insn}
use Rattle.rv_decode.specs.declared.instructions.Insn.TheVariants.{Scalar}
use Rattle.rv_decode.specs.declared.instructions.RegisterOp.{RegisterOp}
use Rattle.rv_decode.specs.declared.instructions.RegisterOp.TheVariants.{Add, Sub}
use Rattle.rv_decode.specs.declared.instructions.ScalarInsn.TheVariants.{Register}
use Rattle.region_mem.specs.declared.parameter.Mode.{Mode}
use Rattle.region_mem.specs.declared.parameter.Param.TheVariants as parameter
use Rattle.abs_state.specs.declared.state.Way.{Way}
use Rattle.abs_state.specs.declared.state.Way.TheVariants.{To}
use Rattle.abs_domain.specs.Values.{ValueView, computed_range}
use Rattle.abs_domain.specs.Effects.{register_effect, difference_effect, difference_range}
use Rattle.abs_domain.specs.Numbers.{NumbersView, table_of, value_at, with_value, with_short, with_computed, with_effect, with_result}
use Rattle.abs_state.specs.State.{AbstractView}
use Rattle.abs_transfer.specs.Scalar.{scalar_after}
use Rattle.abs_state.specs.StepLaws.{jumps}
use Rattle.abs_state.specs.After.{after_of, taken, way_of, next_word}
use Rattle.abs_domain.specs.StateLemmas.{this_value, other_value}
use Rattle.cert_maker.specs.declared.loops.Reading.{Reading}
use Rattle.cert_maker.specs.declared.loops.Reading.TheVariants.{Moves, Back}
use Rattle.cert_maker.specs.Loops.{size_of, is_flagged, moved_by}
use Rattle.cert_maker.specs.Certificates.{base_of}
use Rattle.cert_maker.specs.Known.{Round, IsRound, HasRoom, HasAtoms, IsThere, IsMoved, InMoves, InBack, IsWithin, NumbersAre, Known, known, bytes_of, done_of, atom_of, is_pointer}
use Rattle.cert_maker.specs.Laws.{IsPointer, IsStep}
use Rattle.cert_maker.proofs.Accesses.{met_high, span, spans_same, not_zero}
use Rattle.cert_maker.proofs.Flags.{flag_at, flag_low, cleared, none_set}
use Rattle.cert_maker.proofs.Moves.{pointers-move}

-- what WordsGoOn wants of a word
abbrev pub GoesOn : Round → ℕ → Insn → AbstractView → Reading → Type 0
GoesOn k pc insn a next = (b : AbstractView) × (after_of pc insn a ≡ Ok b) × (jumps insn ≡ false) × Known k next (pc + 4) b

-- what is read where a test is passed
pub test_of : (t : Bool) (x next : Reading) → (if t then Some x else None) ≡ Some next → (t ≡ true) × (x ≡ next)
test_of true x next e = (refl, same x next e)
  where
    same : (a b : Reading) → Some a ≡ Some b → a ≡ b
    same a b e = cc
test_of false x next e = cc

-- ---- the state

pub within_on : (k : Round) (pc : ℕ) (a : AbstractView) (numbers : NumbersView) (way : Way) → IsWithin k pc a
    → IsWithin k (pc + 4) record a { numbers = numbers; words = a.words + 1; way = way }
within_on k pc a numbers way w = record {
  zones = w.zones;
  vtype = w.vtype;
  budget = w.budget;
  paid = w.paid;
  second_paid = w.second_paid;
  words = omega (arith, w.words);
}

-- an instruction on two registers
register_goes : (k : Round) (pc : ℕ) (op : RegisterOp) (rd rs1 rs2 : ℕ) (a : AbstractView) (next : Reading) → IsWithin k pc a
    → NumbersAre k next (with_result rd (register_effect op (value_at a.numbers rs1) (value_at a.numbers rs2)) a.numbers)
    → GoesOn k pc (Scalar (Register op rd rs1 rs2)) a next
unfolding after_of taken way_of scalar_after jumps
register_goes k pc op rd rs1 rs2 a next w n = (
  record a {
    numbers = with_result rd (register_effect op (value_at a.numbers rs1) (value_at a.numbers rs2)) a.numbers;
    words = a.words + 1;
    way = To (next_word pc);
  },
  refl,
  refl,
  (within_on k pc a _ _ w, n),
)

-- ---- numbers with one of them set

loop_is : (s : NumbersView) (i : ℕ) (v : ValueView) {n e a b L N M : ℕ} → IsLoop (table_of s) n e a b L N M
    → IsLoop (table_of (with_value i v s)) n e a b L N M
unfolding with_value
loop_is s i v x = x

forms_are : (s : NumbersView) (i : ℕ) (v : ValueView) → length (with_value i v s).forms ≡ length s.forms
unfolding with_value
forms_are s i v = length-set s.forms i v.form

ranges_are : (s : NumbersView) (i : ℕ) (v : ValueView) → length (with_value i v s).ranges ≡ length s.ranges
unfolding with_value
ranges_are s i v = length-set s.ranges i v.range

pub atoms_stay : (k : Round) (s : NumbersView) (i : ℕ) (v : ValueView) → HasAtoms k s → 2 ≤ i → HasAtoms k (with_value i v s)
atoms_stay k s i v h l = record {
  loop = loop_is s i v h.loop;
  forms = forms_are s i v ∙ h.forms;
  ranges = ranges_are s i v ∙ h.ranges;
  zero = other_value s i 0 v (λ e. omega (arith, e, l)) ∙ h.zero;
  ra = ap (λ (a : ValueView). a.range) (other_value s i 1 v (λ e. omega (arith, e, l))) ∙ h.ra;
}

-- ---- what is left

left_is : (n v : ℕ) → n < v → sum_of (atom_form n) (scaled 4294967295 (atom_form v)) ≡ left_form n v
unfolding scaled scaled_terms sum_of
left_is n v l =
    ap (λ (ts : List Term). record { constant = 0; terms = ts })
    (merged-less (term n 1) (term v 4294967295) [] [] l ∙ ap (λ (ts : List Term). term n 1 ∷ ts) (merged-left (term v 4294967295 ∷ [])))

alone : (r : Range) → computed_range None (Some r) ≡ r
unfolding computed_range
alone r = refl

left_met : (N M : ℕ) → 1 ≤ N → 1 ≤ M
    → computed_range (difference_range (span 1 N) (span 1 (min N M))) (Some (span 0 (N - M))) ≡ span 0 (N - M)
left_met N M a b = by_test (nat_le (min N M) 1) refl
  where
    by_test : (t : Bool) → nat_le (min N M) 1 ≡ t
        → computed_range (if t then Some (span (1 - min N M) (N - 1)) else None) (Some (span 0 (N - M))) ≡ span 0 (N - M)
    by_test true e =
        let le : min N M ≤ 1 = grind (arith, nat_tests) in
        met_high (1 - min N M) (N - 1) 0 (N - M) (omega (arith, le, a, b)) ∙ spans_same _ _ _ _ (omega (arith, le, a, b)) (omega (arith, le, a, b))
    by_test false e = alone (span 0 (N - M))

-- ---- a round

fits_once : (base b : ℕ) → base + b + b < 2 ^ 32 → base + b < 2 ^ 32
fits_once base b l = omega (arith, l)

less_more : (base b c d : ℕ) → b ≤ c → base + b - d ≤ base + c
less_more base b c d l = omega (arith, l)

-- the parameter of the count is no buffer
pub buffer_other : (k : Round) (place : ℕ) → HasRoom k.params k.loop place
    → slice_get k.params (k.loop.count - 10) ≡ Some (parameter.Scalar k.least k.loop.most) → place + 10 ≢ k.loop.count
buffer_other k place room is e =
    let at : k.loop.count - 10 ≡ place = omega (arith, e) in
    clash _ _ _ _ (sym room.is ∙ subst (λ (q : ℕ). slice_get k.params q ≡ Some (parameter.Scalar k.least k.loop.most)) at is)
  where
    clash : (a : Mode) (m lo hi : ℕ) → Some (parameter.Buffer a m) ≡ Some (parameter.Scalar lo hi) → ⊥
    clash a m lo hi e = cc

module _ (k : Round) (is : IsRound k) where
  abbrev N : ℕ
  N = k.loop.most

  abbrev w : ℕ
  w = size_of k.loop

  -- the count is no pointer
  pub count_other : (place : ℕ) → place < 8 → is_pointer k.loop place ≡ true → place + 10 ≢ k.loop.count
  count_other place l p = buffer_other k place (is.room place l p) is.count_is

  pub done_some : 1 ≤ done_of k
  done_some = omega (arith, is.some, is.progress)

  pub one_fits : w ≤ w * N
  one_fits = by_size (λ (x : ℕ). x ≤ x * N) w is.size (omega (arith, is.some)) (omega (arith, is.some)) (omega (arith, is.some))

  pub done_fits : w * done_of k ≤ w * N
  done_fits = by_size (λ (x : ℕ). x * min N k.limit ≤ x * N) w is.size (omega arith) (omega arith) (omega arith)

  pub one_done : w ≤ w * done_of k
  one_done =
      let some = done_some in
      by_size (λ (x : ℕ). x ≤ x * min N k.limit) w is.size (omega (arith, some)) (omega (arith, some)) (omega (arith, some))

  least_fits : w * k.least ≤ w * N
  least_fits = by_size (λ (x : ℕ). x * k.least ≤ x * N) w is.size (omega (arith, is.least)) (omega (arith, is.least)) (omega (arith, is.least))

  -- the range of a pointer that is moved
  pub moved_at : (s : NumbersView) → HasAtoms k s → (place : ℕ) → HasRoom k.params k.loop place
      → range_of_form (table_of s) (moved_form (base_of k.params place) w k.loop.count (atom_of k.loop) 41)
      ≡ Some (span (base_of k.params place + w * k.least - w * (N - k.limit)) (base_of k.params place + w * N))
  moved_at s h place room =
      moved-range (table_of s) (base_of k.params place) w k.loop.count (atom_of k.loop) 41 42 k.least N k.limit h.loop is.size room.low
      (fits_once (base_of k.params place) (w * N) room.high)

  pub moved_low : (place : ℕ) → base_of k.params place + w * k.least - w * (N - k.limit) ≤ base_of k.params place + w * N
  moved_low place = less_more _ _ _ _ least_fits

  -- ---- a pointer is moved

  module _ (s : NumbersView) (step : ℕ) (left : List Bool) (h : InMoves k step left s) where
    pointer_is : (place : ℕ) → place < 8 → (room : HasRoom k.params k.loop place) → IsThere k s place
        → IsPointer s (base_of k.params place) w k.loop.count (atom_of k.loop) 41 N (done_of k)
        (base_of k.params place + w * k.least - w * (N - k.limit)) (place + 10)
    pointer_is place l room there = record {
      register = omega arith;
      first = h.atoms.loop.first;
      second = h.atoms.loop.second;
      form = ap (λ (a : ValueView). a.form) there;
      range = ap (λ (a : ValueView). a.range) there;
      moved = moved_at s h.atoms place room;
      low = moved_low place;
      some = one_fits;
      most = done_fits;
      fits = room.high;
    }

    step_is : IsStep s w 41 (done_of k) step (value_at s step).range.lo (value_at s step).range.hi
    step_is = record {
      form = h.step_is.form;
      range = refl;
      least = h.step_is.least;
      filled = h.step_is.filled;
      most = h.step_is.most;
    }

    -- where one pointer is set to what it is moved to
    set_moves : (place : ℕ) (v : ValueView) → place < 8 → is_pointer k.loop place ≡ true
        → v.form ≡ moved_form (base_of k.params place) w k.loop.count (atom_of k.loop) 41
        → base_of k.params place ≤ v.range.lo → v.range.hi ≤ base_of k.params place + bytes_of k.loop
        → InMoves k step (slice_set left place false) (with_value (place + 10) v s)
    set_moves place v l p form low high = record {
      atoms = atoms_stay k s (place + 10) v h.atoms (omega arith);
      whole = record {
        count = other_value s (place + 10) k.loop.count v (λ e. count_other place l p (sym e)) ∙ h.whole.count;
        length = other_value s (place + 10) k.loop.length v (λ e. is.apart place l p (sym e)) ∙ h.whole.length;
      };
      step_is = (
          let same : value_at (with_value (place + 10) v s) step ≡ value_at s step = other_value s (place + 10) step v (λ e. h.apart place l p (sym e)) in
          record {
            form = ap (λ (a : ValueView). a.form) same ∙ h.step_is.form;
            least = subst (λ (a : ValueView). w ≤ a.range.lo) (sym same) h.step_is.least;
            filled = subst (λ (a : ValueView). a.range.lo ≤ a.range.hi) (sym same) h.step_is.filled;
            most = subst (λ (a : ValueView). a.range.hi ≤ w * done_of k) (sym same) h.step_is.most;
          }
          );
      apart = h.apart;
      unmoved = λ q m e. (
          let old = cleared left place q (sym (flag_at q (slice_set left place false) m) ∙ e) in
          let was = h.unmoved q m (flag_at q left m ∙ old.0) in
          (was.0, other_value s (place + 10) (q + 10) v (λ f. old.1 (omega (arith, f))) ∙ was.1)
          );
      moved = λ q m pointer e. by_place q m pointer e (cases_eq q place);
    }
      where
        Old : ℕ → Type 0
        Old q = value_at (with_value (place + 10) v s) (q + 10) ≡ value_at s (q + 10)

        stays : (q : ℕ) → Old q → IsMoved k s q → IsMoved k (with_value (place + 10) v s) q
        stays q same was = record {
          form = ap (λ (a : ValueView). a.form) same ∙ was.form;
          low = subst (λ (a : ValueView). base_of k.params q ≤ a.range.lo) (sym same) was.low;
          high = subst (λ (a : ValueView). a.range.hi ≤ base_of k.params q + bytes_of k.loop) (sym same) was.high;
        }

        here : IsMoved k (with_value (place + 10) v s) place
        here =
            let same : value_at (with_value (place + 10) v s) (place + 10) ≡ v =
            this_value s (place + 10) v (let n = h.atoms.forms in omega (arith, l, n)) (let n = h.atoms.ranges in omega (arith, l, n)) in
            record {
              form = ap (λ (a : ValueView). a.form) same ∙ form;
              low = subst (λ (a : ValueView). base_of k.params place ≤ a.range.lo) (sym same) low;
              high = subst (λ (a : ValueView). a.range.hi ≤ base_of k.params place + bytes_of k.loop) (sym same) high;
            }

        by_place : (q : ℕ) → q < 8 → is_pointer k.loop q ≡ true → is_flagged (q + 10) (slice_set left place false) ≡ false
            → (q ≡ place) ⊎ (q ≢ place) → IsMoved k (with_value (place + 10) v s) q
        by_place q m pointer e (inl same) = subst (λ (i : ℕ). IsMoved k (with_value (place + 10) v s) i) (sym same) here
        by_place q m pointer e (inr other) =
            stays q (other_value s (place + 10) (q + 10) v (λ f. other (omega (arith, f))))
            (h.moved q m pointer (flag_at q left m ∙ (sym (get_or-set_other left place q false false other) ∙ (sym (flag_at q (slice_set left place false) m) ∙ e))))

    place_moves : (place : ℕ) → place < 8 → is_flagged (place + 10) left ≡ true
        → InMoves k step (slice_set left place false) (with_result (place + 10) (register_effect Add (value_at s (place + 10)) (value_at s step)) s)
    place_moves place l flag =
        let was = h.unmoved place l flag in
        let room = is.room place l was.0 in
        let m = pointers-move s (base_of k.params place) w k.loop.count (atom_of k.loop) 41 N (done_of k) _ (place + 10) step _ _
        (pointer_is place l room was.1) step_is in
        subst (λ (t : NumbersView). InMoves k step (slice_set left place false) t) (sym m.is)
        (set_moves place record { form = moved_form (base_of k.params place) w k.loop.count (atom_of k.loop) 41; range = m.range } l was.0 refl m.low m.high)

    pub register_moves : (rd : ℕ) → is_flagged rd left ≡ true
        → InMoves k step (slice_set left (rd - 10) false) (with_result rd (register_effect Add (value_at s rd) (value_at s step)) s)
    register_moves rd flag =
        let bounds = flag_low rd left flag in
        let at : rd - 10 + 10 ≡ rd = omega (arith, bounds.0) in
        subst (λ (r : ℕ). InMoves k step (slice_set left (rd - 10) false) (with_result r (register_effect Add (value_at s r) (value_at s step)) s)) at
        (place_moves (rd - 10) (omega (arith, bounds.1)) (subst (λ (r : ℕ). is_flagged r left ≡ true) (sym at) flag))

    -- ---- the count is what is left

    abbrev n : ℕ
    n = k.loop.count

    count_left : with_result n (register_effect Sub (value_at s n) (value_at s k.loop.length)) s ≡ with_value n (known (left_form n 41) 0 (N - k.limit)) s
    unfolding with_result with_effect register_effect difference_effect with_computed with_short within
    count_left =
        rw (
          not_zero n (let low = is.count_low in omega (arith, low)),
          h.whole.count,
          h.whole.length,
          left_is n 41 (let high = is.count_high in omega (arith, high)),
          left-range (table_of s) n (atom_of k.loop) 41 42 k.least N k.limit h.atoms.loop is.fits,
          left_met N k.limit is.some is.progress,
        ) refl

    pub back : list_any (λ is_left. is_left) left ≡ false → InBack k (with_result n (register_effect Sub (value_at s n) (value_at s k.loop.length)) s)
    back none =
        subst (λ (t : NumbersView). InBack k t) (sym count_left)
        record {
          atoms = atoms_stay k s n v h.atoms (let low = is.count_low in omega (arith, low));
          count = this_value s n v (let high = is.count_high in let f = h.atoms.forms in omega (arith, high, f))
              (let high = is.count_high in let f = h.atoms.ranges in omega (arith, high, f));
          moved = λ q l p. stays q (other_value s n (q + 10) v (count_other q l p)) (h.moved q l p (flag_at q left l ∙ none_set left q none));
        }
      where
        v : ValueView
        v = known (left_form n 41) 0 (N - k.limit)

        stays : (q : ℕ) → value_at (with_value n v s) (q + 10) ≡ value_at s (q + 10) → IsMoved k s q → IsMoved k (with_value n v s) q
        stays q same was = record {
          form = ap (λ (a : ValueView). a.form) same ∙ was.form;
          low = subst (λ (a : ValueView). base_of k.params q ≤ a.range.lo) (sym same) was.low;
          high = subst (λ (a : ValueView). a.range.hi ≤ base_of k.params q + bytes_of k.loop) (sym same) was.high;
        }

  -- ---- words that move pointers, and the one that takes the count on

  pub moved_on : (pc step : ℕ) (left : List Bool) (insn : Insn) (next : Reading) (a : AbstractView) → moved_by k.loop step left insn ≡ Some next
      → IsWithin k pc a → InMoves k step left a.numbers → GoesOn k pc insn a next
  unfolding moved_by
  moved_on pc step left (Scalar (Register Add rd rs1 rs2)) next a e inside h =
      let read = test_of _ (Moves k.loop step (slice_set left (rd - 10) false)) next e in
      let first = and_parts _ _ read.0 in
      let second = and_parts _ _ first.0 in
      let from : rs1 ≡ rd = eqb-true rs1 rd second.1 in
      let by : rs2 ≡ step = eqb-true rs2 step first.1 in
      subst (λ (r : Reading). GoesOn k pc (Scalar (Register Add rd rs1 rs2)) a r) read.1
      (register_goes k pc Add rd rs1 rs2 a (Moves k.loop step (slice_set left (rd - 10) false)) inside
      (rw (from, by) (register_moves a.numbers step left h rd second.0)))
  moved_on pc step left (Scalar (Register Sub rd rs1 rs2)) next a e inside h =
      let read = test_of _ (Back k.loop) next e in
      let first = and_parts _ _ read.0 in
      let second = and_parts _ _ first.0 in
      let third = and_parts _ _ second.0 in
      let to : rd ≡ k.loop.count = eqb-true rd k.loop.count third.1 in
      let from : rs1 ≡ k.loop.count = eqb-true rs1 k.loop.count second.1 in
      let by : rs2 ≡ k.loop.length = eqb-true rs2 k.loop.length first.1 in
      subst (λ (r : Reading). GoesOn k pc (Scalar (Register Sub rd rs1 rs2)) a r) read.1
      (register_goes k pc Sub rd rs1 rs2 a (Back k.loop) inside
      (rw (to, from, by) (back a.numbers step left h (not-true _ third.0))))
  moved_on pc step left other next a e inside h = cc
