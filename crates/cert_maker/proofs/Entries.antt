-- The block of the entry passes, and so does the way into it.
use Rattle.std.proofs.Common.{◌≡◌, ◌≢◌, ℕ, ◌+◌, ◌*◌, ◌<◌, ◌≤◌, ◌⊎◌, inl, inr, Bool, true, false, refl, sym, ap, ◌∙◌, subst, arith, Some, None, List, [], ◌∷◌, max}
use Rattle.std.specs.Prelude.{ℤ, Ok, if◌then◌else◌, ◌==◌, slice_set, slice_index_or}
use Rattle.std.proofs.lemmas.Bool.{cases_eq, lt-leb, le-leb, ne_eqb, eq-eqb, or_right, or_left}
use Rattle.std.proofs.lemmas.Bool.Decides.{nat_tests}
use Rattle.linear_facts.specs.declared.ranges.Range.{Range}
use Rattle.linear_facts.specs.Forms.{Linear, atom_form, form_at, number_form, scaled, substituted, sum_of, with_replaced}
use Rattle.linear_facts.specs.Ranges.{atom_at, range_at, split_at}
use Rattle.linear_facts.specs.LoopForms.{pointer_form}
use Rattle.linear_facts.specs.LoopRangeLemmas.{same-paid}
use Rattle.rv_decode.specs.declared.instructions.Condition.TheVariants.{Eq}
use Rattle.rv_decode.specs.declared.instructions.Insn.TheVariants.{Scalar}
use Rattle.rv_decode.specs.declared.instructions.ScalarInsn.TheVariants.{Branch}
use Rattle.scalar_core.specs.Hart.{exit}
use Rattle.cert_note.specs.Certificate.{CertificateView}
use Rattle.cert_note.specs.declared.values.RegisterFact.{RegisterFact}
use Rattle.abs_state.specs.declared.state.Way.TheVariants.{Fork}
use Rattle.abs_domain.specs.Values.{ValueView, just}
use Rattle.abs_domain.specs.Numbers.{value_at}
use Rattle.abs_state.specs.State.{AbstractView}
use Rattle.abs_state.specs.Branches.{EdgeView, apart_from, branch_edge, changes_of, edge_by, edge_in, plain_edge, refined, related_edge, related_ranges, relation_of, table_on, value_on, without_end}
use Rattle.abs_domain.specs.Numbers.{whole_atom}
use Rattle.abs_state.specs.Edges.{is_equality_shown, is_interval_shown, is_paid, is_paid_for, is_sum_shown, least_of, most_of, next_total, own_total, pays}
use Rattle.block_checker.specs.Passes.{block_at, edge_passes, edges_pass, is_branch, is_branch_insn, possible_passes}
use Rattle.cert_maker.specs.Loops.{size_of}
use Rattle.cert_maker.specs.Certificates.{base_of, block, budget, entry_count, entry_facts, entry_pointer, fact, facts_by, loop_count, loop_facts, loop_pointer, stated_by}
use Rattle.cert_maker.specs.Known.{Round, atom_of, is_pointer, known}
use Rattle.cert_maker.proofs.Ending.{impossible, le_self, least_zero, loop_places, paid_by, passes_both, possible, range_here, range_there}
use Rattle.cert_maker.proofs.Entrances.{HasEntry, base_fits, entry_places, not_count}
use Rattle.cert_maker.proofs.Equalities.{entry_equality, scaled_atom, sum_parts}
use Rattle.cert_maker.proofs.IsRounds.{IsEntered}
use Rattle.cert_maker.proofs.Moves.{same_form}
use Rattle.cert_maker.proofs.Shown.{Shows, block_shown, edge_ok, exit_shown, if_stated, interval_shown}
use Rattle.linear_facts.specs.MergingLemmas.{merged-left}
use Rattle.cert_maker.proofs.Accesses.{span}
use Rattle.abs_state.specs.PaymentLemmas.{form_there, form_past}

-- ---- the two edges of a branch where the count is 0

most_zero : (r : ℕ) → max r 0 ≡ r
most_zero r = omega arith

-- the count, where it is not 0
count_apart : (L N : ℕ) → 1 ≤ N → L ≤ N → apart_from (span 0 0) (span L N) ≡ Some (span (max 1 L) N)
unfolding apart_from without_end
count_apart L N some least = elim (cases_eq L 0) [
  | inl none ↦ rw (none, ne_eqb N 0 (λ e. omega (arith, e, some)), le-leb 1 N some) refl
  | inr more ↦
      let at : max 1 L ≡ L = omega (arith, more) in
      rw (ne_eqb L 0 more, ne_eqb N 0 (λ e. omega (arith, e, some)), le-leb L N least, at) refl
]

zero_apart : (L N : ℕ) → 1 ≤ N → apart_from (span L N) (span 0 0) ≡ Some (span 0 0)
unfolding apart_from without_end
zero_apart L N some = by_test (L == N) refl
  where
    by_test : (t : Bool) → (L == N) ≡ t → (if t then without_end L (span 0 0) else Some (span 0 0)) ≡ Some (span 0 0)
    by_test true e =
        let same : L ≡ N = grind (arith, nat_tests) in
        rw (ne_eqb 0 L (λ f. omega (arith, f, same, some))) refl
    by_test false e = refl

module _ (b : AbstractView) (n there next e : ℕ) (nonzero : n ≢ 0) (way : b.way ≡ Fork Eq n 0 there next)
    (zero_is : value_at b.numbers 0 ≡ known (number_form 0) 0 0) where
  abbrev pub edge_of : Bool → ℕ → Range → EdgeView
  edge_of taken target r = record {
    state = b;
    ranges = slice_set (slice_set b.numbers.ranges n r) 0 (span 0 0);
    first = Some record { atom = e; range = r };
    second = None;
    refined = true;
    target = Some target;
    said = Some record { condition = Eq; rs1 = n; rs2 = 0; taken = taken };
  }

  some_taken : (N : ℕ) → value_at b.numbers n ≡ known (atom_form e) 0 N → refined true b ≡ Some (edge_of true there (span 0 0))
  unfolding refined edge_by branch_edge related_edge relation_of related_ranges edge_in changes_of whole_atom
  some_taken N count = rw (way, ne_eqb n 0 nonzero, count, zero_is, least_zero N, count, zero_is) refl

  none_taken : (L N : ℕ) → 0 < L → value_at b.numbers n ≡ known (atom_form e) L N → refined true b ≡ None
  unfolding refined edge_by branch_edge related_edge relation_of related_ranges
  none_taken L N some count = rw (way, ne_eqb n 0 nonzero, count, zero_is, most_zero L, least_zero N, lt-leb L 0 some) refl

  pub taken_edge : (L N : ℕ) → value_at b.numbers n ≡ known (atom_form e) L N
      → (refined true b ≡ None) ⊎ (refined true b ≡ Some (edge_of true there (span 0 0)))
  taken_edge L N count = elim (cases_eq L 0) [
    | inl none ↦ inr (some_taken N (count ∙ ap (λ (x : ℕ). known (atom_form e) x N) none))
    | inr more ↦ inl (none_taken L N (omega (arith, more)) count)
  ]

  -- where there is nothing to do the loop is not entered
  pub none_other : value_at b.numbers n ≡ known (atom_form e) 0 0 → refined false b ≡ None
  unfolding refined edge_by branch_edge related_edge relation_of related_ranges apart_from without_end
  none_other count = rw (way, ne_eqb n 0 nonzero, count, zero_is) refl

  pub other_edge : (L N : ℕ) → 1 ≤ N → L ≤ N → value_at b.numbers n ≡ known (atom_form e) L N
      → refined false b ≡ Some (edge_of false next (span (max 1 L) N))
  unfolding refined edge_by branch_edge related_edge relation_of related_ranges edge_in changes_of whole_atom
  other_edge L N some least count =
      rw (way, ne_eqb n 0 nonzero, count, zero_is, count_apart L N some least, zero_apart L N some, count, zero_is) refl

-- ---- what they show

two_least : (x y p q u z : ℕ) → x ≡ 1 → x + 1 + 0 * u + 0 * z ≤ 2 + y + 0 * q
two_least x y p q u z e = omega (arith, e)

one_more : (x : ℕ) → x ≡ 1 → x + 1 ≡ 2
one_more x e = omega (arith, e)

-- what the block of the entry knows at its branch
pub record IsFirst (k : Round) (a : AbstractView) : Type 0 where
  pub numbers : HasEntry k a.numbers
  pub budget : a.budget ≡ Some (budget 2 k.words k.loop.count)
  pub paid : a.paid ≡ known (atom_form (atom_of k.loop)) k.least k.loop.most
  pub second_paid : a.second_paid ≡ known (number_form 0) 0 0
  pub words : a.words ≡ 0

-- The edges lead to blocks of the certificate: that past the loop, and that into it, where it can be taken.
pub record AreThere (certificate : CertificateView) (k : Round) (there next : ℕ) : Type 0 where
  pub end : there ≡ k.start + 4 * k.words
  pub end_at : block_at (k.start + 4 * k.words) certificate.blocks ≡ Some (block (k.start + 4 * k.words) (budget 1 0 0) (facts_by (λ place. None)))
  pub end_other : k.start + 4 * k.words ≢ exit
  pub loop : next ≡ k.start
  pub loop_at : 1 ≤ k.loop.most → block_at k.start certificate.blocks
      ≡ Some (block k.start (budget 1 k.words k.loop.count) (loop_facts k.params k.loop))
  pub loop_other : k.start ≢ exit

module _ (k : Round) (is : IsEntered k) (pc : ℕ) (a : AbstractView) (h : IsFirst k a) (there next : ℕ) where
  abbrev n : ℕ
  n = k.loop.count

  abbrev e : ℕ
  e = atom_of k.loop

  abbrev b : AbstractView
  b = record a { words = a.words + 1; way = Fork Eq n 0 there next }

  nonzero : n ≢ 0
  nonzero = λ f. (let low = is.count_low in omega (arith, f, low))

  one_word : a.words + 1 ≡ 1
  one_word = (let none = h.words in omega (arith, none))

  abbrev edge : Bool → ℕ → Range → EdgeView
  edge = edge_of b n there next e nonzero refl h.numbers.zero

  ra_shown : (taken : Bool) (target : ℕ) (p : Range) → is_interval_shown (edge taken target p) (fact 1 exit exit None) ≡ true
  ra_shown taken target p =
      exit_shown (edge taken target p)
      (range_there a.numbers n 1 p (span 0 0) (λ f. omega (arith, f)) (λ f. (let low = is.count_low in omega (arith, f, low))) ∙ h.numbers.ra)

  -- ---- on to the return

  module _ (address : ℕ) (target_is : there ≡ address) where
    abbrev on : EdgeView
    on = edge true there (span 0 0)

    on_pays : pays on (budget 2 k.words n) (Some (budget 1 0 0)) ≡ true
    unfolding pays is_paid
    on_pays =
        or_left _ _ (le-leb (most_of (next_total on (budget 1 0 0))) (least_of (own_total on (budget 2 k.words n)))
        (two_least (a.words + 1) (k.words * a.paid.range.lo) 0 a.second_paid.range.lo (value_on on 0).range.hi (value_on on 0).range.hi one_word))

    on_shows : Shows on address (budget 1 0 0) (λ place. None)
    on_shows = record {
      target = eq-eqb there address target_is;
      ra = ra_shown true there (span 0 0);
      intervals = λ place l. tt;
      equalities = λ place l. tt;
      paid = paid_by on b.budget (budget 2 k.words n) (budget 1 0 0) h.budget on_pays;
    }

  -- ---- into the loop

  module _ (some : 1 ≤ k.loop.most) (target_is : next ≡ k.start) where
    abbrev into : EdgeView
    into = edge false next (span (max 1 k.least) k.loop.most)

    count_shown : is_interval_shown into (loop_count k.loop) ≡ true
    count_shown =
        let at : slice_index_or into.ranges n (just 0) ≡ span (max 1 k.least) k.loop.most =
        range_here a.numbers n (span (max 1 k.least) k.loop.most) (span 0 0) nonzero (let high = is.count_high in let m = h.numbers.ranges in omega (arith, high, m)) in
        interval_shown into (loop_count k.loop)
        (subst (λ (r : Range). 1 ≤ r.lo) (sym at) (omega arith)) (subst (λ (r : Range). r.hi ≤ k.loop.most) (sym at) (le_self k.loop.most))

    count_equal : is_equality_shown into (loop_count k.loop) ≡ true
    unfolding is_equality_shown
    count_equal = refl

    pointer_shown : (place : ℕ) → place < 8 → is_pointer k.loop place ≡ true → is_interval_shown into (loop_pointer k.params k.loop place) ≡ true
    pointer_shown place l p =
        let at : slice_index_or into.ranges (place + 10) (just 0) ≡ just (base_of k.params place) =
        range_there a.numbers n (place + 10) (span (max 1 k.least) k.loop.most) (span 0 0) (λ f. omega (arith, f)) (not_count k is place l p)
        ∙ ap (λ (v : ValueView). v.range) (h.numbers.pointers place l p) in
        interval_shown into (loop_pointer k.params k.loop place)
        (subst (λ (r : Range). base_of k.params place ≤ r.lo) (sym at) (le_self (base_of k.params place)))
        (subst (λ (r : Range). r.hi ≤ base_of k.params place + size_of k.loop * k.loop.most) (sym at) (omega arith))

    pointer_equal : (place : ℕ) → place < 8 → is_pointer k.loop place ≡ true → is_equality_shown into (loop_pointer k.params k.loop place) ≡ true
    unfolding is_equality_shown is_sum_shown value_on
    pointer_equal place l p =
        rw (
          equality,
          ap (λ (v : ValueView). v.form) (h.numbers.pointers place l p),
        ) (same_form (number_form (base_of k.params place)))
      where
        equality : substituted a.numbers.forms (pointer_form (base_of k.params place) (size_of k.loop) n e) ≡ number_form (base_of k.params place)
        equality =
            entry_equality a.numbers.forms (base_of k.params place) (size_of k.loop) n e is.size (base_fits k is place l p)
            (form_there a.numbers n (let high = is.count_high in let m = h.numbers.forms in omega (arith, high, m)) ∙ ap (λ (v : ValueView). v.form) h.numbers.count)
            (form_past a.numbers e (let low = is.count_low in let m = h.numbers.forms in omega (arith, low, m)))

    into_range : range_at (table_on into) e ≡ span (max 1 k.least) k.loop.most
    unfolding range_at
    into_range = rw (eq-eqb e e refl) refl

    into_split : split_at (table_on into) e ≡ None
    unfolding split_at atom_at
    into_split = h.numbers.split

    into_paid : is_paid_for into b.budget (Some (budget 1 k.words n)) ≡ true
    unfolding is_paid_for pays is_paid value_on
    into_paid =
        rw (h.budget, h.paid, h.second_paid, h.numbers.count, h.numbers.zero, one_word)
        (or_right _ _ (same-paid (table_on into) e (max 1 k.least) k.loop.most 2 k.words into_range into_split (let least = is.least in omega (arith, some, least)) is.fits))

    into_shows : Shows into k.start (budget 1 k.words n) (stated_by k.loop (loop_count k.loop) (λ q. loop_pointer k.params k.loop q))
    into_shows = record {
      target = eq-eqb next k.start target_is;
      ra = ra_shown false next (span (max 1 k.least) k.loop.most);
      intervals = λ place l. if_stated (λ f. is_interval_shown into f ≡ true) k.loop (loop_count k.loop) (λ q. loop_pointer k.params k.loop q) place
          (λ f. count_shown) (λ p. pointer_shown place l p);
      equalities = λ place l. if_stated (λ f. is_equality_shown into f ≡ true) k.loop (loop_count k.loop) (λ q. loop_pointer k.params k.loop q) place
          (λ f. count_equal) (λ p. pointer_equal place l p);
      paid = into_paid;
    }

  -- ---- both

  on_passes : (certificate : CertificateView) → AreThere certificate k there next → possible_passes certificate pc (refined true b) ≡ Ok tt
  on_passes certificate c =
      elim (taken_edge b n there next e nonzero refl h.numbers.zero k.least k.loop.most h.numbers.count) [
        | inl none ↦ impossible certificate pc (refined true b) none
        | inr is_edge ↦
            possible certificate pc (refined true b) (edge true there (span 0 0)) is_edge
            (edge_ok certificate pc (k.start + 4 * k.words) _ _ (ap (λ (x : ℕ). Some x) c.end) c.end_other c.end_at
            (block_shown _ (k.start + 4 * k.words) (budget 1 0 0) (λ place. None) (λ place. tt) (on_shows (k.start + 4 * k.words) c.end)))
      ]

  into_passes : (certificate : CertificateView) → AreThere certificate k there next → 1 ≤ k.loop.most → possible_passes certificate pc (refined false b) ≡ Ok tt
  into_passes certificate c some =
      possible certificate pc (refined false b) (edge false next (span (max 1 k.least) k.loop.most))
      (other_edge b n there next e nonzero refl h.numbers.zero k.least k.loop.most some is.least h.numbers.count)
      (edge_ok certificate pc k.start _ _ (ap (λ (x : ℕ). Some x) c.loop) c.loop_other (c.loop_at some)
      (block_shown _ k.start (budget 1 k.words n) _ (loop_places k.params k.loop) (into_shows some c.loop)))

  never_passes : (certificate : CertificateView) → k.loop.most ≡ 0 → possible_passes certificate pc (refined false b) ≡ Ok tt
  never_passes certificate none =
      let least : k.least ≡ 0 = (let l = is.least in omega (arith, l, none)) in
      impossible certificate pc (refined false b)
      (none_other b n there next e nonzero refl h.numbers.zero
      (h.numbers.count ∙ (ap (λ (x : ℕ). known (atom_form e) x k.loop.most) least ∙ ap (λ (x : ℕ). known (atom_form e) 0 x) none)))

  other_passes : (certificate : CertificateView) → AreThere certificate k there next → possible_passes certificate pc (refined false b) ≡ Ok tt
  other_passes certificate c = elim (cases_eq k.loop.most 0) [
    | inl none ↦ never_passes certificate none
    | inr more ↦ into_passes certificate c (omega (arith, more))
  ]

  pub branch_passes : (certificate : CertificateView) (offset : ℤ) → AreThere certificate k there next
      → edges_pass certificate pc (Scalar (Branch Eq n 0 offset)) b ≡ Ok tt
  unfolding edges_pass is_branch is_branch_insn
  branch_passes certificate offset c = passes_both _ _ (on_passes certificate c) (other_passes certificate c)

-- ---- the way into the entry's block

one_replaced : (forms : List Linear) (a x : ℕ) → substituted forms (record { constant = 0; terms = record { atom = a; coefficient = x } ∷ [] })
    ≡ sum_of (number_form 0) (scaled x (form_at forms a))
unfolding substituted with_replaced
one_replaced forms a x = refl

atom_alone : (forms : List Linear) (a : ℕ) → form_at forms a ≡ atom_form a → substituted forms (atom_form a) ≡ atom_form a
atom_alone forms a at =
    one_replaced forms a 1
    ∙ (rw (at, scaled_atom 1 a (inl refl)) (sum_parts 0 0 [] (record { atom = a; coefficient = 1 } ∷ []) _ (omega arith) (merged-left _)))

module _ (k : Round) (is : IsEntered k) (pc : ℕ) (a : AbstractView) (h : HasEntry k a.numbers) (none : a.budget ≡ None) where
  abbrev way_in : EdgeView
  way_in = plain_edge a (Some pc)

  plain_range : (i : ℕ) → slice_index_or way_in.ranges i (just 0) ≡ (value_at a.numbers i).range
  unfolding value_at
  plain_range i = refl

  -- what is known of a number lies within a fact
  within_fact : (f : RegisterFact) (lo hi : ℕ) → (value_at a.numbers f.number).range ≡ span lo hi → f.low ≤ lo → hi ≤ f.high
      → is_interval_shown way_in f ≡ true
  within_fact f lo hi range low high =
      let at : slice_index_or way_in.ranges f.number (just 0) ≡ span lo hi = plain_range f.number ∙ range in
      interval_shown way_in f (subst (λ (r : Range). f.low ≤ r.lo) (sym at) low) (subst (λ (r : Range). r.hi ≤ f.high) (sym at) high)

  entry_count_equal : is_equality_shown way_in (entry_count k.loop) ≡ true
  unfolding is_equality_shown is_sum_shown value_on
  entry_count_equal =
      rw (
        atom_alone a.numbers.forms (atom_of k.loop) (form_past a.numbers (atom_of k.loop) (let low = is.count_low in let m = h.forms in omega (arith, low, m))),
        ap (λ (v : ValueView). v.form) h.count,
      ) (same_form (atom_form (atom_of k.loop)))

  entry_pointer_equal : (place : ℕ) → place < 8 → is_pointer k.loop place ≡ true → is_equality_shown way_in (entry_pointer k.params place) ≡ true
  unfolding is_equality_shown is_sum_shown value_on substituted with_replaced
  entry_pointer_equal place l p =
      rw (ap (λ (v : ValueView). v.form) (h.pointers place l p)) (same_form (number_form (base_of k.params place)))

  in_shows : Shows way_in pc (budget 2 k.words k.loop.count) (stated_by k.loop (entry_count k.loop) (λ q. entry_pointer k.params q))
  unfolding is_paid_for
  in_shows = record {
    target = eq-eqb pc pc refl;
    ra = within_fact (fact 1 exit exit None) exit exit h.ra (le_self exit) (le_self exit);
    intervals = λ place l. if_stated (λ f. is_interval_shown way_in f ≡ true) k.loop (entry_count k.loop) (λ q. entry_pointer k.params q) place
        (λ f. within_fact (entry_count k.loop) k.least k.loop.most (ap (λ (v : ValueView). v.range) h.count) (omega arith) (le_self k.loop.most))
        (λ p. within_fact (entry_pointer k.params place) (base_of k.params place) (base_of k.params place) (ap (λ (v : ValueView). v.range) (h.pointers place l p))
        (le_self (base_of k.params place)) (le_self (base_of k.params place)));
    equalities = λ place l. if_stated (λ f. is_equality_shown way_in f ≡ true) k.loop (entry_count k.loop) (λ q. entry_pointer k.params q) place
        (λ f. entry_count_equal) (λ p. entry_pointer_equal place l p);
    paid = rw none refl;
  }

  pub way_in_passes : (certificate : CertificateView) → pc ≢ exit
      → block_at pc certificate.blocks ≡ Some (block pc (budget 2 k.words k.loop.count) (entry_facts k.params k.loop))
      → edge_passes certificate pc way_in ≡ Ok tt
  way_in_passes certificate ne at =
      edge_ok certificate pc pc way_in _ refl ne at
      (block_shown way_in pc (budget 2 k.words k.loop.count) _ (entry_places k.params k.loop) in_shows)
