-- What is known of the numbers at the entry, where a run begins and where the entry's block does.
use Rattle.std.proofs.Common.{◌≡◌, ◌≢◌, ℕ, ◌+◌, ◌-◌, ◌^◌, ◌<◌, ◌≤◌, true, refl, sym, ap, ◌∙◌, subst, arith, Option, Some, None, List, [], length}
use Rattle.std.specs.List.{slice_get}
use Rattle.std.specs.Option.{option_and_then}
use Rattle.std.proofs.lemmas.Bool.{le-leb, lt-ltb, ne_eqb}
use Rattle.std.proofs.lemmas.List.FromFn.{length-map-range_with_len}
use Rattle.linear_facts.specs.declared.ranges.Range.{Range}
use Rattle.linear_facts.specs.declared.ranges.Atom.{Atom}
use Rattle.linear_facts.specs.Forms.{Linear, atom_form, number_form}
use Rattle.linear_facts.specs.Ranges.{range_at, split_at}
use Rattle.linear_facts.specs.Sums.{range_of_form}
use Rattle.linear_facts.specs.LoopRangeLemmas.{atom-range, number-range}
use Rattle.region_mem.specs.declared.parameter.Param.{Param}
use Rattle.region_mem.specs.declared.parameter.Param.TheVariants as parameter
use Rattle.scalar_core.specs.Entry.{entry_value}
use Rattle.scalar_core.specs.Hart.{exit}
use Rattle.cert_note.specs.declared.values.RegisterFact.{RegisterFact}
use Rattle.abs_domain.specs.Values.{ValueView, computed_range, just, or_full}
use Rattle.abs_domain.specs.Numbers.{NumbersView, table_of, table_with, value_at}
use Rattle.abs_domain.specs.Starts.{interval_of, form_or_atom, stated_range, stated_form, start_atoms, numbers_by, start_numbers, passed_value, start_value, form_with, entry_form, entry_numbers}
use Rattle.abs_domain.specs.StartNumberLemmas.{form_by, range_by, atom_of_passed, no_atom_split}
use Rattle.cert_maker.specs.declared.loops.Loop.{Loop}
use Rattle.cert_maker.specs.Certificates.{base_of, stated_by, entry_count, entry_facts, entry_pointer}
use Rattle.cert_maker.specs.Known.{Round, known, atom_of, is_pointer}
use Rattle.cert_maker.specs.Laws.{FactsByPlace}
use Rattle.cert_maker.proofs.IsRounds.{IsEntered}
use Rattle.cert_maker.proofs.Returns.{computed_just, ra_is}
use Rattle.cert_maker.proofs.Shown.{if_stated}
use Rattle.cert_maker.proofs.Beginnings.{part_met, value_is, begin_forms, begin_ranges, argument_range, none_split, begins_as, zero_is, range_stated, form_stated, count_stated, pointer_stated, scalar_range}
use Rattle.cert_maker.proofs.Accesses.{span}
use Rattle.cert_maker.proofs.Going.{buffer_other}

-- what is stated at the entry is stated by place
pub entry_places : (params : List Param) (loop : Loop)
    → FactsByPlace (stated_by loop (entry_count loop) (λ q. entry_pointer params q))
entry_places params loop place =
    if_stated (λ f. f.number ≡ place + 10) loop (entry_count loop) (λ q. entry_pointer params q) place (λ e. sym e) (λ e. refl)

pub not_count : (k : Round) → IsEntered k → (place : ℕ) → place < 8 → is_pointer k.loop place ≡ true → place + 10 ≢ k.loop.count
not_count k is place l p = buffer_other k place (is.room place l p) is.count_is

pub base_fits : (k : Round) → IsEntered k → (place : ℕ) → place < 8 → is_pointer k.loop place ≡ true → base_of k.params place < 2 ^ 32
base_fits k is place l p = (let high = (is.room place l p).high in omega (arith, high))

-- What is known of the numbers at the entry, where the count is what was passed and each pointer its buffer's start.
pub record HasEntry (k : Round) (s : NumbersView) : Type 0 where
  pub forms : length s.forms ≡ 33
  pub ranges : length s.ranges ≡ 33
  pub count : value_at s k.loop.count ≡ known (atom_form (atom_of k.loop)) k.least k.loop.most
  pub zero : value_at s 0 ≡ known (number_form 0) 0 0
  pub ra : (value_at s 1).range ≡ just exit
  pub split : split_at (table_of s) (atom_of k.loop) ≡ None
  pub pointers : (place : ℕ) → place < 8 → is_pointer k.loop place ≡ true
      → value_at s (place + 10) ≡ known (number_form (base_of k.params place)) (base_of k.params place) (base_of k.params place)

module _ (k : Round) (is : IsEntered k) where
  abbrev n : ℕ
  n = k.loop.count

  abbrev e : ℕ
  e = atom_of k.loop

  place_of : n - 10 + 10 ≡ n
  place_of = (let low = is.count_low in omega (arith, low))

  place_low : n - 10 < 8
  place_low = (let high = is.count_high in omega (arith, high))

  e_low : 33 ≤ e
  e_low = (let low = is.count_low in omega (arith, low))

  e_high : e < 41
  e_high = (let high = is.count_high in omega (arith, high))

  e_place : e - 33 ≡ n - 10
  e_place = (let low = is.count_low in omega (arith, low))

  -- ---- where the block begins

  abbrev stated : ℕ → Option RegisterFact
  stated = stated_by k.loop (entry_count k.loop) (λ q. entry_pointer k.params q)

  abbrev pub entry_start : NumbersView
  entry_start = start_numbers k.params (entry_facts k.params k.loop) []

  entry_interval : stated_range (entry_facts k.params k.loop) n ≡ span 0 k.loop.most
  entry_interval =
      subst (λ (r : ℕ). stated_range (entry_facts k.params k.loop) r ≡ span 0 k.loop.most) place_of
      (range_stated k.params stated (entry_places k.params k.loop) (n - 10) place_low
      ∙ ap (λ (o : Option RegisterFact). interval_of o) (count_stated k.loop (entry_count k.loop) (λ q. entry_pointer k.params q) (n - 10) place_of))

  entry_says : stated_form (entry_facts k.params k.loop) n ≡ atom_form e
  entry_says =
      subst (λ (r : ℕ). stated_form (entry_facts k.params k.loop) r ≡ atom_form e) place_of
      (form_stated k.params stated (entry_places k.params k.loop) (n - 10) place_low
      ∙ ap (λ (o : Option RegisterFact). form_or_atom (n - 10 + 10) (option_and_then (λ f. f.equality) o))
      (count_stated k.loop (entry_count k.loop) (λ q. entry_pointer k.params q) (n - 10) place_of))

  argument_is : range_at (table_of entry_start) e ≡ span k.least k.loop.most
  argument_is = argument_range k.params stated e e_low e_high ∙ scalar_range k.params (n - 10) e k.least k.loop.most is.count_is e_place

  pub block_entry : HasEntry k entry_start
  block_entry = record {
    forms = begin_forms k.params stated;
    ranges = begin_ranges k.params stated;
    count =
        begins_as k.params stated n (let high = is.count_high in omega (arith, high)) (atom_form e) (span 0 k.loop.most) (span k.least k.loop.most)
        (Some (span k.least k.loop.most)) entry_says entry_interval
        (atom-range (table_of entry_start) e k.least k.loop.most argument_is (none_split k.params stated e) is.least is.fits)
        (part_met 0 k.loop.most k.least k.loop.most (omega arith) is.least (omega arith));
    zero = zero_is k.params stated;
    ra = ra_is k.params stated;
    split = none_split k.params stated e;
    pointers = pointer_at;
  }
    where
      pointer_at : (place : ℕ) → place < 8 → is_pointer k.loop place ≡ true
          → value_at entry_start (place + 10) ≡ known (number_form (base_of k.params place)) (base_of k.params place) (base_of k.params place)
      pointer_at place l p =
          let here = pointer_stated k.loop (entry_count k.loop) (λ q. entry_pointer k.params q) place (not_count k is place l p) p in
          begins_as k.params stated (place + 10) (omega (arith, l)) (number_form (base_of k.params place)) (just (base_of k.params place))
          (just (base_of k.params place)) _
          (form_stated k.params stated (entry_places k.params k.loop) place l
          ∙ ap (λ (o : Option RegisterFact). form_or_atom (place + 10) (option_and_then (λ f. f.equality) o)) here)
          (range_stated k.params stated (entry_places k.params k.loop) place l ∙ ap (λ (o : Option RegisterFact). interval_of o) here)
          refl
          (computed_just (base_of k.params place) _)

  -- ---- where the run begins

  abbrev pub run_start : NumbersView
  run_start = entry_numbers k.params

  run_form : (i : ℕ) → i < 33 → (value_at run_start i).form ≡ entry_form k.params i
  unfolding entry_numbers
  run_form i l = form_by (start_atoms k.params []) (entry_form k.params) (λ j. None) i l

  run_range : (i : ℕ) → i < 33 → (value_at run_start i).range ≡ or_full (range_of_form (table_of run_start) (entry_form k.params i))
  unfolding entry_numbers numbers_by computed_range
  run_range i l = range_by (start_atoms k.params []) (entry_form k.params) (λ j. None) i l

  runs_as : (i : ℕ) → i < 33 → (f : Linear) (r : Range) → entry_form k.params i ≡ f → range_of_form (table_of run_start) f ≡ Some r
      → value_at run_start i ≡ record { form = f; range = r }
  runs_as i l f r form range = value_is run_start i f r (run_form i l ∙ form) (run_range i l ∙ (rw (form, range) refl))

  argument_form : (place : ℕ) → place < 8 → (p : Param) → slice_get k.params place ≡ Some p
      → entry_form k.params (place + 10) ≡ form_with (passed_value k.params place (Some p))
  unfolding entry_form start_value entry_value
  argument_form place l p there =
      let at : place + 10 - 10 ≡ place = omega arith in
      rw (
        ne_eqb (place + 10) 1 (λ f. omega (arith, f)),
        ne_eqb (place + 10) 2 (λ f. omega (arith, f)),
        le-leb 10 (place + 10) (omega arith),
        lt-ltb (place + 10) 18 (omega (arith, l)),
        at,
        there,
      ) refl

  run_split : (a : ℕ) → split_at (table_of run_start) a ≡ None
  unfolding entry_numbers numbers_by
  run_split a = no_atom_split k.params [] a

  run_argument : range_at (table_of run_start) e ≡ span k.least k.loop.most
  unfolding entry_numbers numbers_by range_at
  run_argument =
      ap (λ (q : Atom). q.range) (atom_of_passed k.params [] e e_low e_high) ∙ scalar_range k.params (n - 10) e k.least k.loop.most is.count_is e_place

  count_form : entry_form k.params n ≡ atom_form e
  unfolding passed_value
  count_form =
      let at : 33 + (n - 10) ≡ e = (let low = is.count_low in omega (arith, low)) in
      subst (λ (r : ℕ). entry_form k.params r ≡ atom_form e) place_of
      (argument_form (n - 10) place_low (parameter.Scalar k.least k.loop.most) is.count_is ∙ ap (λ (a : ℕ). atom_form a) at)

  pointer_form_is : (place : ℕ) → place < 8 → is_pointer k.loop place ≡ true → entry_form k.params (place + 10) ≡ number_form (base_of k.params place)
  unfolding passed_value
  pointer_form_is place l p =
      let room = is.room place l p in
      argument_form place l (parameter.Buffer room.access room.size) room.is

  zero_form : entry_form k.params 0 ≡ number_form 0
  unfolding entry_form start_value entry_value
  zero_form = refl

  ra_form : entry_form k.params 1 ≡ number_form exit
  unfolding entry_form start_value entry_value
  ra_form = refl

  many_forms : length run_start.forms ≡ 33
  unfolding entry_numbers numbers_by
  many_forms = length-map-range_with_len (entry_form k.params) 0 33

  many_ranges : length run_start.ranges ≡ 33
  unfolding entry_numbers numbers_by
  many_ranges =
      length-map-range_with_len (λ (i : ℕ). computed_range None (range_of_form (table_with (start_atoms k.params [])) (entry_form k.params i))) 0 33

  pub run_entry : HasEntry k run_start
  run_entry = record {
    forms = many_forms;
    ranges = many_ranges;
    count =
        runs_as n (let high = is.count_high in omega (arith, high)) (atom_form e) (span k.least k.loop.most) count_form
        (atom-range (table_of run_start) e k.least k.loop.most run_argument (run_split e) is.least is.fits);
    zero = runs_as 0 (omega arith) (number_form 0) (just 0) zero_form (number-range (table_of run_start) 0 (omega arith));
    ra = ap (λ (v : ValueView). v.range) (runs_as 1 (omega arith) (number_form exit) (just exit) ra_form (number-range (table_of run_start) exit (omega arith)));
    split = run_split e;
    pointers = λ place l p.
        runs_as (place + 10) (omega (arith, l)) (number_form (base_of k.params place)) (just (base_of k.params place)) (pointer_form_is place l p)
        (number-range (table_of run_start) (base_of k.params place) (base_fits k is place l p));
  }
