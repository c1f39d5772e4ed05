-- Where a round ends, the edges of its branch pass.
use Rattle.std.proofs.Common.{◌≡◌, ◌≢◌, ℕ, ◌+◌, ◌-◌, ◌*◌, ◌/◌, ◌^◌, ◌<◌, ◌≤◌, ◌⊎◌, inl, inr, Bool, true, false, refl, sym, ap, ◌∙◌, subst, arith, Option, Some, None, IfSome, List, length, min}
use Rattle.std.proofs.Common.{get_or-set_same, get_or-set_other}
use Rattle.std.specs.Prelude.{ℤ, Ok, slice_set, slice_index_or}
use Rattle.std.proofs.lemmas.Bool.{cases_eq, ne_eqb, eq-eqb, or_right, or_left, le-leb}
use Rattle.linear_facts.specs.declared.ranges.Range.{Range}
use Rattle.linear_facts.specs.Forms.{number_form}
use Rattle.linear_facts.specs.LoopForms.{left_form}
use Rattle.linear_facts.specs.LoopRangeLemmas.{round-paid}
use Rattle.rv_decode.specs.declared.instructions.Condition.TheVariants.{Ne}
use Rattle.rv_decode.specs.declared.instructions.Insn.TheVariants.{Scalar}
use Rattle.rv_decode.specs.declared.instructions.ScalarInsn.TheVariants.{Branch}
use Rattle.region_mem.specs.declared.parameter.Param.{Param}
use Rattle.scalar_core.specs.Hart.{exit}
use Rattle.cert_note.specs.Certificate.{CertificateView}
use Rattle.cert_note.specs.declared.values.Budget.{Budget}
use Rattle.abs_state.specs.declared.state.Way.TheVariants.{Fork}
use Rattle.abs_domain.specs.Values.{ValueView, just}
use Rattle.abs_domain.specs.Numbers.{NumbersView, table_of, value_at}
use Rattle.abs_state.specs.State.{AbstractView}
use Rattle.abs_state.specs.After.{taken, next_word}
use Rattle.abs_state.specs.Branches.{EdgeView, refined, edge_by, branch_edge, related_edge, relation_of, related_ranges, apart_from, without_end, edge_in, changes_of, value_on}
use Rattle.abs_domain.specs.Numbers.{whole_atom}
use Rattle.abs_state.specs.Edges.{is_interval_shown, is_equality_shown, is_paid_for, pays, is_paid, least_of, most_of, own_total, next_total}
use Rattle.block_checker.specs.Passes.{Checked, both, edges_pass, possible_passes, edge_passes, is_branch, is_branch_insn}
use Rattle.cert_maker.specs.declared.loops.Loop.{Loop}
use Rattle.cert_maker.specs.Loops.{size_of}
use Rattle.cert_maker.specs.Certificates.{fact, budget, base_of, stated_by, loop_count, loop_pointer}
use Rattle.cert_maker.specs.Known.{Round, IsRound, IsCertified, InBack, IsWithin, known, atom_of, is_pointer}
use Rattle.cert_maker.proofs.Going.{count_other}
use Rattle.cert_maker.proofs.Moves.{pointers-return}
use Rattle.cert_maker.proofs.Shown.{Shows, block_shown, exit_shown, interval_shown, if_stated, edge_ok}
use Rattle.cert_maker.proofs.Accesses.{span}
use Rattle.abs_state.specs.PaymentLemmas.{form_there, form_past}

pub le_self : (a : ℕ) → a ≤ a
le_self a = omega arith

pub least_zero : (r : ℕ) → min r 0 ≡ 0
least_zero r = omega arith

pub paid_by : (e : EdgeView) (o : Option Budget) (own next : Budget) → o ≡ Some own → pays e own (Some next) ≡ true → is_paid_for e o (Some next) ≡ true
unfolding is_paid_for
paid_by e o own next is ok = rw is ok

-- ---- the two edges

module _ (b : AbstractView) (n there next : ℕ) (nonzero : n ≢ 0) (way : b.way ≡ Fork Ne n 0 there next)
    (zero_is : value_at b.numbers 0 ≡ known (number_form 0) 0 0) where
  abbrev pub edge_of : Bool → ℕ → Range → EdgeView
  edge_of taken target r = record {
    state = b;
    ranges = slice_set (slice_set b.numbers.ranges n r) 0 (span 0 0);
    first = None;
    second = None;
    refined = true;
    target = Some target;
    said = Some record { condition = Ne; rs1 = n; rs2 = 0; taken = taken };
  }

  none_taken : value_at b.numbers n ≡ known (left_form n 41) 0 0 → refined true b ≡ None
  unfolding refined edge_by branch_edge related_edge relation_of related_ranges apart_from without_end
  none_taken count = rw (way, ne_eqb n 0 nonzero, count, zero_is) refl

  some_taken : (r : ℕ) → r ≢ 0 → value_at b.numbers n ≡ known (left_form n 41) 0 r → refined true b ≡ Some (edge_of true there (span 1 r))
  unfolding refined edge_by branch_edge related_edge relation_of related_ranges apart_from without_end edge_in changes_of whole_atom
  some_taken r some count =
      rw (
        way,
        ne_eqb n 0 nonzero,
        count,
        zero_is,
        ne_eqb r 0 some,
        ne_eqb 0 r (λ e. some (sym e)),
        le-leb 1 r (omega (arith, some)),
        count,
        zero_is,
      ) refl

  pub taken_edge : (r : ℕ) → value_at b.numbers n ≡ known (left_form n 41) 0 r
      → (refined true b ≡ None) ⊎ ((1 ≤ r) × (refined true b ≡ Some (edge_of true there (span 1 r))))
  taken_edge r count = elim (cases_eq r 0) [
    | inl none ↦ inl (none_taken (count ∙ ap (λ (x : ℕ). known (left_form n 41) 0 x) none))
    | inr some ↦ inr (omega (arith, some), some_taken r some count)
  ]

  pub other_edge : (r : ℕ) → value_at b.numbers n ≡ known (left_form n 41) 0 r → refined false b ≡ Some (edge_of false next (span 0 0))
  unfolding refined edge_by branch_edge related_edge relation_of related_ranges edge_in changes_of whole_atom
  other_edge r count = rw (way, ne_eqb n 0 nonzero, count, zero_is, least_zero r, count, zero_is) refl

-- what registers' ranges are on an edge
pub range_there : (s : NumbersView) (n i : ℕ) (p q : Range) → i ≢ 0 → i ≢ n
    → slice_index_or (slice_set (slice_set s.ranges n p) 0 q) i (just 0) ≡ (value_at s i).range
unfolding value_at
range_there s n i p q nz ne = get_or-set_other (slice_set s.ranges n p) 0 i q (just 0) nz ∙ get_or-set_other s.ranges n i p (just 0) ne

pub range_here : (s : NumbersView) (n : ℕ) (p q : Range) → n ≢ 0 → n < length s.ranges
    → slice_index_or (slice_set (slice_set s.ranges n p) 0 q) n (just 0) ≡ p
range_here s n p q nz l = get_or-set_other (slice_set s.ranges n p) 0 n q (just 0) nz ∙ get_or-set_same s.ranges n p (just 0) l

least_is : (words : ℕ) (p q : ValueView) → p.range.lo ≡ 1 → 1 + words * p.range.lo + 0 * q.range.lo ≡ 1 + words
least_is words p q e = rw e (omega arith)

none_more : (x y u z : ℕ) → x ≡ y → x + 1 + 0 * u + 0 * z ≡ y + 1
none_more x y u z e = omega (arith, e)

le_from : (x y w : ℕ) → x ≡ w + 1 → y ≡ 1 + w → x ≤ y
le_from x y w e f = omega (arith, e, f)

-- what is stated where a loop begins is stated by place
pub loop_places : (params : List Param) (loop : Loop) (place : ℕ)
    → IfSome (stated_by loop (loop_count loop) (λ q. loop_pointer params loop q) place) (λ f. f.number ≡ place + 10)
loop_places params loop place =
    if_stated (λ f. f.number ≡ place + 10) loop (loop_count loop) (λ q. loop_pointer params loop q) place (λ e. sym e) (λ e. refl)

-- ---- edges that pass

pub passes_both : (x y : Checked) → x ≡ Ok tt → y ≡ Ok tt → both x y ≡ Ok tt
passes_both x y e f = rw (e, f) refl

pub possible : (certificate : CertificateView) (pc : ℕ) (x : Option EdgeView) (e : EdgeView) → x ≡ Some e → edge_passes certificate pc e ≡ Ok tt
    → possible_passes certificate pc x ≡ Ok tt
unfolding possible_passes
possible certificate pc x e is_edge passes = rw is_edge passes

pub impossible : (certificate : CertificateView) (pc : ℕ) (x : Option EdgeView) → x ≡ None → possible_passes certificate pc x ≡ Ok tt
unfolding possible_passes
impossible certificate pc x none = rw none refl

module _ (k : Round) (is : IsRound k) (pc : ℕ) (a : AbstractView) (inside : IsWithin k pc a) (h : InBack k a.numbers)
    (words : k.words ≡ (pc - k.start) / 4 + 1) (there : ℕ) where
  abbrev n : ℕ
  n = k.loop.count

  abbrev b : AbstractView
  b = record a { words = a.words + 1; way = Fork Ne n 0 there (next_word pc) }

  nonzero : n ≢ 0
  nonzero = λ e. (let low = is.count_low in omega (arith, e, low))

  words_are : a.words + 1 ≡ k.words
  words_are =
      let at = inside.words in
      omega (arith, at, words)

  abbrev edge : Bool → ℕ → Range → EdgeView
  edge = edge_of b n there (next_word pc) nonzero refl h.atoms.zero

  ra_shown : (taken : Bool) (target : ℕ) (p : Range) → is_interval_shown (edge taken target p) (fact 1 exit exit None) ≡ true
  ra_shown taken target p =
      exit_shown (edge taken target p)
      (range_there a.numbers n 1 p (span 0 0) (λ e. omega (arith, e)) (λ e. (let low = is.count_low in omega (arith, e, low))) ∙ h.atoms.ra)

  -- ---- back to the loop's start

  module _ (some : 1 ≤ k.loop.most - k.limit) (target_is : there ≡ k.start) where
    abbrev back : EdgeView
    back = edge true there (span 1 (k.loop.most - k.limit))

    pointer_shown : (place : ℕ) → place < 8 → is_pointer k.loop place ≡ true
        → (is_interval_shown back (loop_pointer k.params k.loop place) ≡ true) × (is_equality_shown back (loop_pointer k.params k.loop place) ≡ true)
    pointer_shown place l p =
        let was = h.moved place l p in
        let room = is.room place l p in
        let at : slice_index_or back.ranges (place + 10) (just 0) ≡ (value_at a.numbers (place + 10)).range =
        range_there a.numbers n (place + 10) (span 1 (k.loop.most - k.limit)) (span 0 0) (λ e. omega (arith, e)) (other place l p) in
        pointers-return back (base_of k.params place) (size_of k.loop) n (atom_of k.loop) 41 k.loop.most (place + 10) is.size (fits (base_of k.params place) (size_of k.loop * k.loop.most) room.high)
        h.atoms.loop.first h.atoms.loop.second was.form
        (form_there a.numbers n (let high = is.count_high in let m = h.atoms.forms in omega (arith, high, m)) ∙ ap (λ (v : ValueView). v.form) h.count)
        (form_past a.numbers (atom_of k.loop) (let low = is.count_low in let m = h.atoms.forms in omega (arith, low, m)))
        (subst (λ (r : Range). base_of k.params place ≤ r.lo) (sym at) was.low)
        (subst (λ (r : Range). r.hi ≤ base_of k.params place + size_of k.loop * k.loop.most) (sym at) was.high)
      where
        fits : (x y : ℕ) → x + y + y < 2 ^ 32 → x < 2 ^ 32
        fits x y m = omega (arith, m)

        other : (q : ℕ) → q < 8 → is_pointer k.loop q ≡ true → q + 10 ≢ n
        other q m f = count_other k is q m f

    count_shown : is_interval_shown back (loop_count k.loop) ≡ true
    count_shown =
        let at : slice_index_or back.ranges n (just 0) ≡ span 1 (k.loop.most - k.limit) =
        range_here a.numbers n (span 1 (k.loop.most - k.limit)) (span 0 0) nonzero (let high = is.count_high in let m = h.atoms.ranges in omega (arith, high, m)) in
        interval_shown back (loop_count k.loop)
        (subst (λ (r : Range). 1 ≤ r.lo) (sym at) (le_self 1)) (subst (λ (r : Range). r.hi ≤ k.loop.most) (sym at) (omega arith))

    count_equal : is_equality_shown back (loop_count k.loop) ≡ true
    unfolding is_equality_shown
    count_equal = refl

    back_paid : is_paid_for back b.budget (Some (budget 1 k.words n)) ≡ true
    unfolding is_paid_for pays is_paid value_on
    back_paid =
        rw (inside.budget, inside.paid, inside.second_paid, h.count, h.atoms.zero, words_are)
        (or_right _ _ (round-paid (table_of a.numbers) n (atom_of k.loop) 41 42 k.least k.loop.most k.limit k.words h.atoms.loop is.fits))

    back_shows : Shows back k.start (budget 1 k.words n) (stated_by k.loop (loop_count k.loop) (λ q. loop_pointer k.params k.loop q))
    back_shows = record {
      target = eq-eqb there k.start target_is;
      ra = ra_shown true there (span 1 (k.loop.most - k.limit));
      intervals = λ place l. if_stated (λ f. is_interval_shown back f ≡ true) k.loop (loop_count k.loop) (λ q. loop_pointer k.params k.loop q) place
          (λ e. count_shown) (λ p. (pointer_shown place l p).0);
      equalities = λ place l. if_stated (λ f. is_equality_shown back f ≡ true) k.loop (loop_count k.loop) (λ q. loop_pointer k.params k.loop q) place
          (λ e. count_equal) (λ p. (pointer_shown place l p).1);
      paid = back_paid;
    }

  -- ---- on to the return

  module _ (address : ℕ) (target_is : next_word pc ≡ address) where
    abbrev on : EdgeView
    on = edge false (next_word pc) (span 0 0)

    own_least : least_of (own_total on (budget 1 k.words n)) ≡ 1 + k.words
    own_least = least_is k.words a.paid a.second_paid (ap (λ (v : ValueView). v.range.lo) inside.paid)

    next_most : most_of (next_total on (budget 1 0 0)) ≡ k.words + 1
    next_most = none_more (a.words + 1) k.words (value_on on 0).range.hi (value_on on 0).range.hi words_are

    on_pays : pays on (budget 1 k.words n) (Some (budget 1 0 0)) ≡ true
    unfolding pays is_paid
    on_pays = or_left _ _ (le-leb (most_of (next_total on (budget 1 0 0))) (least_of (own_total on (budget 1 k.words n))) (le_from _ _ k.words next_most own_least))

    on_paid : is_paid_for on b.budget (Some (budget 1 0 0)) ≡ true
    on_paid = paid_by on b.budget (budget 1 k.words n) (budget 1 0 0) inside.budget on_pays

    on_shows : Shows on address (budget 1 0 0) (λ place. None)
    on_shows = record {
      target = eq-eqb (next_word pc) address target_is;
      ra = ra_shown false (next_word pc) (span 0 0);
      intervals = λ place l. tt;
      equalities = λ place l. tt;
      paid = on_paid;
    }

  -- ---- both

  back_passes : (certificate : CertificateView) → IsCertified certificate k → there ≡ k.start → possible_passes certificate pc (refined true b) ≡ Ok tt
  back_passes certificate c target_is =
      elim (taken_edge b n there (next_word pc) nonzero refl h.atoms.zero (k.loop.most - k.limit) h.count) [
        | inl none ↦ impossible certificate pc (refined true b) none
        | inr some ↦
            possible certificate pc (refined true b) (edge true there (span 1 (k.loop.most - k.limit))) some.1
            (edge_ok certificate pc k.start _ _ (ap (λ (x : ℕ). Some x) target_is) c.start_other c.loop_at
            (block_shown _ k.start (budget 1 k.words n) _ (loop_places k.params k.loop) (back_shows some.0 target_is)))
      ]

  on_passes : (certificate : CertificateView) → IsCertified certificate k → next_word pc ≡ k.start + 4 * k.words
      → possible_passes certificate pc (refined false b) ≡ Ok tt
  on_passes certificate c target_is =
      possible certificate pc (refined false b) (edge false (next_word pc) (span 0 0))
      (other_edge b n there (next_word pc) nonzero refl h.atoms.zero (k.loop.most - k.limit) h.count)
      (edge_ok certificate pc (k.start + 4 * k.words) _ _ (ap (λ (x : ℕ). Some x) target_is) c.end_other c.end_at
      (block_shown _ (k.start + 4 * k.words) (budget 1 0 0) (λ place. None) (λ place. tt) (on_shows (k.start + 4 * k.words) target_is)))

  pub edges_ok : (certificate : CertificateView) (offset : ℤ) → IsCertified certificate k → there ≡ k.start → next_word pc ≡ k.start + 4 * k.words
      → edges_pass certificate pc (Scalar (Branch Ne n 0 offset)) b ≡ Ok tt
  unfolding edges_pass is_branch is_branch_insn
  edges_ok certificate offset c back_is on_is = passes_both _ _ (back_passes certificate c back_is) (on_passes certificate c on_is)
