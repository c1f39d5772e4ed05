-- What is known where a block begins, and where a run does. Atom i below 33 is the number of x0 to
-- x31 or of vl there, and atom 33 + j the number that was passed for the parameter at place j.
use Rattle.std.specs.Prelude.{ℕ, ◌<◌, ◌≤◌, ◌+◌, ◌==◌, if◌then◌else◌, List, [], ◌++◌, length, map, find, unwrap_or, Option, Some, None, IfSome}
use Rattle.std.specs.List.{slice_get, range_with_len, AllByRecursion}
use Rattle.std.specs.Option.{option_and_then}
use Rattle.abs_domain.specs.Words.{Range, Atom, Linear, IsForm, number_form, atom_form, range_of_form, Param, Equality, RegisterFact, OrderFact, Block}
use Rattle.linear_facts.specs.declared.forms.Term.{Term}
use Rattle.region_mem.specs.declared.parameter.Param.TheVariants as parameter
use Rattle.region_mem.specs.Parameter.{address_of}
use Rattle.cert_note.specs.declared.values.EqualityTerm.{EqualityTerm}
use Rattle.scalar_core.specs.declared.entry.EntryValue.{EntryValue}
use Rattle.scalar_core.specs.declared.entry.EntryValue.TheVariants.{Number, Passed}
use Rattle.scalar_core.specs.Entry.{entry_value}
use Rattle.abs_domain.specs.Values.{full_range, just, computed_range}
use Rattle.abs_domain.specs.Numbers.{NumbersView, plain, table_with}
use Rattle.abs_domain.specs.Orders.{with_orders}

-- the fact on a register, or on vl (32), if there is one
abbrev pub fact_for : List RegisterFact → ℕ → Option RegisterFact
fact_for facts i = find (λ fact. fact.number == i) facts

abbrev pub interval_of : Option RegisterFact → Range
interval_of None = full_range
interval_of (Some fact) = record { lo = fact.low; hi = fact.high }

-- the interval that is stated of a register or of vl; x0 is 0
unfoldable pub stated_range : List RegisterFact → ℕ → Range
stated_range facts i = if i == 0 then just 0 else interval_of (fact_for facts i)

-- a term of an equality as one of a form
abbrev pub form_term : EqualityTerm → Term
form_term t = record { atom = t.atom; coefficient = t.coefficient }

-- the sum of an equality as a form
abbrev pub equality_form : Equality → Linear
equality_form equality =
    record { constant = equality.constant; terms = map form_term equality.terms.items }

-- The sum that is stated, if one is, is a form with at most eight terms.
abbrev pub HasForm : RegisterFact → Type 0
HasForm fact = IfSome fact.equality (λ equality. IsForm 8 (equality_form equality))

-- What the start of a block needs of its contents, which each block of a certificate has.
pub record IsUsable (block : Block) : Type 0 where
  pub forms : AllByRecursion HasForm block.registers.items
  pub register : block.budget.register < 32
  pub second_register : block.budget.second_register < 32
  pub few : length block.vectors.items ≤ 32
  pub few_orders : length block.orders.items ≤ 32
  pub orders : AllByRecursion (λ order. order.greater < 33) block.orders.items

-- the equality, or the atom of this number where there is none
abbrev pub form_or_atom : ℕ → Option Equality → Linear
form_or_atom i None = atom_form i
form_or_atom i (Some equality) = equality_form equality

-- the form that is stated of a register or of vl; x0 is 0
unfoldable pub stated_form : List RegisterFact → ℕ → Linear
stated_form facts i =
    if i == 0 then number_form 0
    else form_or_atom i (option_and_then (λ fact. fact.equality) (fact_for facts i))

-- what is known of the number that is passed for a parameter: a scalar lies in its interval
unfoldable pub passed_range : Option Param → Range
passed_range None = full_range
passed_range (Some parameter.None) = full_range
passed_range (Some (parameter.Scalar lo hi)) = record { lo = lo; hi = hi }
passed_range (Some (parameter.Buffer mode size)) = full_range

-- the atoms of registers and vl, and those of the numbers passed
unfoldable pub start_atoms : List Param → List RegisterFact → List Atom
start_atoms params facts =
    map (λ i. plain (stated_range facts i)) (range_with_len 0 33)
    ++ map (λ place. plain (passed_range (slice_get params place))) (range_with_len 0 8)

-- the numbers where number i has this form and lies in this interval, if there is one
unfoldable pub numbers_by : List Atom → (ℕ → Linear) → (ℕ → Option Range) → NumbersView
numbers_by atoms form interval = record {
  atoms = atoms;
  forms = map form (range_with_len 0 33);
  ranges = map (λ i. computed_range (interval i) (range_of_form (table_with atoms) (form i)))
      (range_with_len 0 33);
}

-- the numbers where these facts and orders hold
unfoldable pub start_numbers : List Param → List RegisterFact → List OrderFact → NumbersView
start_numbers params facts orders =
    numbers_by (with_orders (start_atoms params facts) orders) (stated_form facts)
    (λ i. Some (stated_range facts i))

-- what is passed for a parameter: 0 for none, for a scalar what is passed at its place, or the
-- buffer's address
unfoldable pub passed_value : List Param → ℕ → Option Param → EntryValue
passed_value params place None = Number 0
passed_value params place (Some parameter.None) = Number 0
passed_value params place (Some (parameter.Scalar lo hi)) = Passed place
passed_value params place (Some (parameter.Buffer mode size)) =
    Number (unwrap_or (address_of place params) 0)

-- a register's value with these parameters
abbrev pub value_for : List Param → EntryValue → EntryValue
value_for params (Number number) = Number number
value_for params (Passed place) = passed_value params place (slice_get params place)

-- what a register holds at the start of a run with these parameters
unfoldable pub start_value : List Param → ℕ → EntryValue
start_value params r = value_for params (entry_value r)

-- it as a form: what is passed is an atom
abbrev pub form_with : EntryValue → Linear
form_with (Number number) = number_form number
form_with (Passed place) = atom_form (33 + place)

-- what a register or vl (32) holds there; vl is 0
unfoldable pub entry_form : List Param → ℕ → Linear
entry_form params i = form_with (start_value params i)

unfoldable pub entry_numbers : List Param → NumbersView
entry_numbers params = numbers_by (start_atoms params []) (entry_form params) (λ i. None)
