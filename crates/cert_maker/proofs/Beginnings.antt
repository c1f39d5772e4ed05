-- What is known of the numbers where a block begins whose facts are stated by place.
use Rattle.std.proofs.Common.{◌≡◌, ◌≢◌, ℕ, ◌+◌, ◌-◌, ◌<◌, ◌≤◌, true, refl, ap, ◌∙◌, arith, Option, Some, None, List, [], length}
use Rattle.std.specs.List.{slice_get}
use Rattle.std.specs.Option.{option_and_then}
use Rattle.std.proofs.lemmas.Bool.{ne_eqb, eq-eqb}
use Rattle.std.proofs.lemmas.List.FromFn.{length-map-range_with_len}
use Rattle.linear_facts.specs.declared.ranges.Range.{Range}
use Rattle.linear_facts.specs.declared.ranges.Atom.{Atom}
use Rattle.linear_facts.specs.Forms.{Linear, number_form}
use Rattle.linear_facts.specs.Ranges.{range_at, split_at}
use Rattle.linear_facts.specs.Sums.{range_of_form}
use Rattle.region_mem.specs.declared.parameter.Param.{Param}
use Rattle.region_mem.specs.declared.parameter.Param.TheVariants as parameter
use Rattle.cert_note.specs.declared.values.RegisterFact.{RegisterFact}
use Rattle.abs_domain.specs.Values.{computed_range, just}
use Rattle.abs_domain.specs.Numbers.{NumbersView, table_of, table_with, value_at}
use Rattle.abs_domain.specs.Orders.{with_orders}
use Rattle.abs_domain.specs.Starts.{interval_of, form_or_atom, stated_range, stated_form, passed_range, start_atoms, numbers_by, start_numbers}
use Rattle.abs_domain.specs.StartNumberLemmas.{form_by, range_by, atoms_many, atom_of_register, atom_of_passed, no_atom_split}
use Rattle.cert_maker.specs.declared.loops.Loop.{Loop}
use Rattle.cert_maker.specs.Certificates.{facts_by, stated_by}
use Rattle.cert_maker.specs.Known.{known, is_pointer}
use Rattle.cert_maker.specs.Laws.{FactsByPlace}
use Rattle.cert_maker.proofs.Accesses.{met_high, span, spans_same}
use Rattle.cert_maker.proofs.Facts.{facts-are}
use Rattle.cert_maker.proofs.Returns.{computed_just}

-- where a range meets a part of it that part is left
pub part_met : (lo hi p q : ℕ) → lo ≤ p → p ≤ q → q ≤ hi → computed_range (Some (span lo hi)) (Some (span p q)) ≡ span p q
part_met lo hi p q l m h =
    met_high lo hi p q (omega (arith, l, m, h)) ∙ spans_same _ _ _ _ (omega (arith, l)) (omega (arith, h))

pub value_is : (s : NumbersView) (i : ℕ) (f : Linear) (r : Range) → (value_at s i).form ≡ f → (value_at s i).range ≡ r
    → value_at s i ≡ record { form = f; range = r }
unfolding value_at
value_is s i f r e g = rw (e, g) refl

-- ---- a block

module _ (params : List Param) (stated : ℕ → Option RegisterFact) where
  abbrev begin : NumbersView
  begin = start_numbers params (facts_by stated) []

  pub begin_forms : length begin.forms ≡ 33
  unfolding start_numbers numbers_by
  begin_forms = length-map-range_with_len (stated_form (facts_by stated)) 0 33

  pub begin_ranges : length begin.ranges ≡ 33
  unfolding start_numbers numbers_by
  begin_ranges =
      length-map-range_with_len
      (λ (i : ℕ). computed_range (Some (stated_range (facts_by stated) i))
      (range_of_form (table_with (with_orders (start_atoms params (facts_by stated)) [])) (stated_form (facts_by stated) i))) 0 33

  pub begin_atoms : length begin.atoms ≡ 41
  unfolding start_numbers numbers_by with_orders
  begin_atoms = atoms_many params (facts_by stated)

  pub register_range : (a : ℕ) → a < 33 → range_at (table_of begin) a ≡ stated_range (facts_by stated) a
  unfolding range_at start_numbers numbers_by with_orders
  register_range a l = ap (λ (k : Atom). k.range) (atom_of_register params (facts_by stated) a l)

  pub argument_range : (a : ℕ) → 33 ≤ a → a < 41 → range_at (table_of begin) a ≡ passed_range (slice_get params (a - 33))
  unfolding range_at start_numbers numbers_by with_orders
  argument_range a l g = ap (λ (k : Atom). k.range) (atom_of_passed params (facts_by stated) a l g)

  pub none_split : (a : ℕ) → split_at (table_of begin) a ≡ None
  unfolding start_numbers numbers_by with_orders
  none_split a = no_atom_split params (facts_by stated) a

  begin_form : (i : ℕ) → i < 33 → (value_at begin i).form ≡ stated_form (facts_by stated) i
  unfolding start_numbers with_orders
  begin_form i l =
      form_by (start_atoms params (facts_by stated)) (stated_form (facts_by stated)) (λ j. Some (stated_range (facts_by stated) j)) i l

  begin_range : (i : ℕ) → i < 33
      → (value_at begin i).range ≡ computed_range (Some (stated_range (facts_by stated) i)) (range_of_form (table_of begin) (stated_form (facts_by stated) i))
  unfolding start_numbers numbers_by with_orders
  begin_range i l =
      range_by (start_atoms params (facts_by stated)) (stated_form (facts_by stated)) (λ j. Some (stated_range (facts_by stated) j)) i l

  -- a number by what is stated of it
  pub begins_as : (i : ℕ) → i < 33 → (f : Linear) (own r : Range) (o : Option Range) → stated_form (facts_by stated) i ≡ f
      → stated_range (facts_by stated) i ≡ own → range_of_form (table_of begin) f ≡ o → computed_range (Some own) o ≡ r
      → value_at begin i ≡ record { form = f; range = r }
  begins_as i l f own r o form range other met =
      value_is begin i f r (begin_form i l ∙ form)
      (begin_range i l ∙ (rw (form, range, other) met))

  pub zero_is : value_at begin 0 ≡ known (number_form 0) 0 0
  unfolding stated_range stated_form
  zero_is = begins_as 0 (omega arith) (number_form 0) (just 0) (just 0) _ refl refl refl (computed_just 0 _)

  -- ---- by place

  module _ (numbers : FactsByPlace stated) where
    pub range_stated : (place : ℕ) → place < 8 → stated_range (facts_by stated) (place + 10) ≡ interval_of (stated place)
    unfolding stated_range
    range_stated place l =
        rw (ne_eqb (place + 10) 0 (λ e. omega (arith, e))) (ap (λ (o : Option RegisterFact). interval_of o) ((facts-are stated numbers).place place l))

    pub form_stated : (place : ℕ) → place < 8
        → stated_form (facts_by stated) (place + 10) ≡ form_or_atom (place + 10) (option_and_then (λ f. f.equality) (stated place))
    unfolding stated_form
    form_stated place l =
        rw (ne_eqb (place + 10) 0 (λ e. omega (arith, e)))
        (ap (λ (o : Option RegisterFact). form_or_atom (place + 10) (option_and_then (λ f. f.equality) o)) ((facts-are stated numbers).place place l))

-- ---- what is stated of the count and of pointers

module _ (loop : Loop) (of_count : RegisterFact) (of_pointer : ℕ → RegisterFact) where
  pub count_stated : (place : ℕ) → place + 10 ≡ loop.count → stated_by loop of_count of_pointer place ≡ Some of_count
  count_stated place e = rw (eq-eqb (place + 10) loop.count e) refl

  pub pointer_stated : (place : ℕ) → place + 10 ≢ loop.count → is_pointer loop place ≡ true → stated_by loop of_count of_pointer place ≡ Some (of_pointer place)
  pointer_stated place ne p = rw (ne_eqb (place + 10) loop.count ne, p) refl

pub scalar_range : (params : List Param) (place e lo hi : ℕ) → slice_get params place ≡ Some (parameter.Scalar lo hi) → e - 33 ≡ place
    → passed_range (slice_get params (e - 33)) ≡ span lo hi
unfolding passed_range
scalar_range params place e lo hi is at = rw (at, is) refl
