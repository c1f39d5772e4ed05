-- What is known of the numbers where the loop's block begins.
use Rattle.std.proofs.Common.{◌≡◌, ℕ, ◌+◌, ◌-◌, ◌*◌, ◌^◌, ◌<◌, ◌≤◌, true, ap, ◌∙◌, subst, arith, Option, Some, [], length, min, max}
use Rattle.std.specs.Option.{option_and_then}
use Rattle.linear_facts.specs.Forms.{atom_form, number_form}
use Rattle.linear_facts.specs.Ranges.{range_at}
use Rattle.linear_facts.specs.LoopForms.{pointer_form}
use Rattle.linear_facts.specs.LoopRangeLemmas.{atom-range, pointer-range, by_size}
use Rattle.scalar_core.specs.Hart.{exit}
use Rattle.cert_note.specs.declared.values.RegisterFact.{RegisterFact}
use Rattle.abs_domain.specs.Values.{just}
use Rattle.abs_domain.specs.Numbers.{NumbersView, table_of, value_at}
use Rattle.abs_domain.specs.Starts.{interval_of, form_or_atom, stated_range, stated_form, start_numbers}
use Rattle.cert_maker.specs.Loops.{size_of}
use Rattle.cert_maker.specs.Certificates.{base_of, stated_by, loop_count, loop_facts, loop_pointer}
use Rattle.cert_maker.specs.Known.{Round, IsRound, IsThere, known, atom_of, bytes_of, is_pointer}
use Rattle.cert_maker.specs.Laws.{IsCount}
use Rattle.cert_maker.proofs.Accesses.{met_high, span, spans_same}
use Rattle.cert_maker.proofs.Ending.{loop_places}
use Rattle.cert_maker.proofs.Going.{count_other, one_fits}
use Rattle.cert_maker.proofs.Returns.{ra_is}
use Rattle.cert_maker.proofs.Beginnings.{part_met, begin_forms, begin_ranges, begin_atoms, register_range, argument_range, none_split, begins_as, zero_is, range_stated, form_stated, count_stated, pointer_stated, scalar_range}

loop_pays : (base x y w : ℕ) → x ≤ y → w ≤ y → max base (base + x - y) ≤ min (base + y) (base + y - w)
loop_pays base x y w l m = omega (arith, l, m)

low_end : (base x y : ℕ) → x ≤ y → max base (base + x - y) ≡ base
low_end base x y l = omega (arith, l)

high_end : (base y w : ℕ) → min (base + y) (base + y - w) ≡ base + y - w
high_end base y w = omega arith

fits_less : (base b : ℕ) → base + b + b < 2 ^ 32 → base + b < 2 ^ 32
fits_less base b l = omega (arith, l)

module _ (k : Round) (is : IsRound k) where
  abbrev n : ℕ
  n = k.loop.count

  abbrev e : ℕ
  e = atom_of k.loop

  abbrev stated : ℕ → Option RegisterFact
  stated = stated_by k.loop (loop_count k.loop) (λ q. loop_pointer k.params k.loop q)

  abbrev pub loop_start : NumbersView
  loop_start = start_numbers k.params (loop_facts k.params k.loop) []

  place_of : n - 10 + 10 ≡ n
  place_of = (let low = is.count_low in omega (arith, low))

  place_low : n - 10 < 8
  place_low = (let high = is.count_high in omega (arith, high))

  count_interval : stated_range (loop_facts k.params k.loop) n ≡ span 1 k.loop.most
  count_interval =
      subst (λ (r : ℕ). stated_range (loop_facts k.params k.loop) r ≡ span 1 k.loop.most) place_of
      (range_stated k.params stated (loop_places k.params k.loop) (n - 10) place_low
      ∙ ap (λ (o : Option RegisterFact). interval_of o) (count_stated k.loop (loop_count k.loop) (λ q. loop_pointer k.params k.loop q) (n - 10) place_of))

  count_form : stated_form (loop_facts k.params k.loop) n ≡ atom_form n
  count_form =
      subst (λ (r : ℕ). stated_form (loop_facts k.params k.loop) r ≡ atom_form r) place_of
      (form_stated k.params stated (loop_places k.params k.loop) (n - 10) place_low
      ∙ ap (λ (o : Option RegisterFact). form_or_atom (n - 10 + 10) (option_and_then (λ f. f.equality) o))
      (count_stated k.loop (loop_count k.loop) (λ q. loop_pointer k.params k.loop q) (n - 10) place_of))

  n_below : n < 33
  n_below = (let high = is.count_high in omega (arith, high))

  n_range : range_at (table_of loop_start) n ≡ span 1 k.loop.most
  n_range = register_range k.params stated n n_below ∙ count_interval

  e_range : range_at (table_of loop_start) e ≡ span k.least k.loop.most
  e_range =
      argument_range k.params stated e (let low = is.count_low in omega (arith, low)) (let high = is.count_high in omega (arith, high))
      ∙ scalar_range k.params (n - 10) e k.least k.loop.most is.count_is (let low = is.count_low in omega (arith, low))

  pub count_begins : value_at loop_start n ≡ known (atom_form n) 1 k.loop.most
  count_begins =
      begins_as k.params stated n n_below (atom_form n) (span 1 k.loop.most) (span 1 k.loop.most) (Some (span 1 k.loop.most)) count_form count_interval
      (atom-range (table_of loop_start) n 1 k.loop.most n_range (none_split k.params stated n) is.some is.fits)
      (part_met 1 k.loop.most 1 k.loop.most (omega arith) is.some (omega arith))

  pub count_is : IsCount loop_start n k.loop.length e k.least k.loop.most k.limit
  count_is = record {
    count = count_begins;
    first = omega arith;
    second = (let many = begin_atoms k.params stated in let high = is.count_high in omega (arith, many, high));
    n_range = n_range;
    e_range = e_range;
    e_split = none_split k.params stated e;
    forms = begin_forms k.params stated;
    ranges = begin_ranges k.params stated;
    positive = (let low = is.length_low in omega (arith, low));
    below = is.length_high;
    some = is.some;
    least = is.least;
    progress = is.progress;
  }

  pub atoms_begin : length loop_start.atoms ≡ 41
  atoms_begin = begin_atoms k.params stated

  pub zero_begins : value_at loop_start 0 ≡ known (number_form 0) 0 0
  zero_begins = zero_is k.params stated

  pub ra_begins : (value_at loop_start 1).range ≡ just exit
  ra_begins = ra_is k.params stated

  least_bytes : size_of k.loop * k.least ≤ bytes_of k.loop
  least_bytes =
      by_size (λ (x : ℕ). x * k.least ≤ x * k.loop.most) (size_of k.loop) is.size (omega (arith, is.least)) (omega (arith, is.least)) (omega (arith, is.least))

  pub pointer_begins : (place : ℕ) → place < 8 → is_pointer k.loop place ≡ true → IsThere k loop_start place
  pointer_begins place l p =
      let room = is.room place l p in
      let base = base_of k.params place in
      let here = pointer_stated k.loop (loop_count k.loop) (λ q. loop_pointer k.params k.loop q) place (count_other k is place l p) p in
      begins_as k.params stated (place + 10) (omega (arith, l)) (pointer_form base (size_of k.loop) n e) (span base (base + bytes_of k.loop))
      (span base (base + bytes_of k.loop - size_of k.loop))
      (Some (span (base + size_of k.loop * k.least - bytes_of k.loop) (base + bytes_of k.loop - size_of k.loop)))
      (form_stated k.params stated (loop_places k.params k.loop) place l
      ∙ ap (λ (o : Option RegisterFact). form_or_atom (place + 10) (option_and_then (λ f. f.equality) o)) here)
      (range_stated k.params stated (loop_places k.params k.loop) place l ∙ ap (λ (o : Option RegisterFact). interval_of o) here)
      (pointer-range (table_of loop_start) base (size_of k.loop) n e k.least k.loop.most (omega arith) n_range e_range (none_split k.params stated n)
      (none_split k.params stated e) is.some is.least is.size room.low (fits_less base (bytes_of k.loop) room.high))
      (met_high base (base + bytes_of k.loop) (base + size_of k.loop * k.least - bytes_of k.loop) (base + bytes_of k.loop - size_of k.loop)
      (loop_pays base (size_of k.loop * k.least) (bytes_of k.loop) (size_of k.loop) least_bytes (one_fits k is))
      ∙ spans_same _ _ _ _ (low_end base (size_of k.loop * k.least) (bytes_of k.loop) least_bytes) (high_end base (bytes_of k.loop) (size_of k.loop)))
