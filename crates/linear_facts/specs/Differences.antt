-- Differences of multiples of forms in whole numbers. Each form stands for its sum less the one
-- multiple of 2^32 by which its range was found.
use Rattle.std.specs.Prelude.{ℕ, ◌≡◌, ◌≤◌, true, ◌+◌, ◌-◌, ◌*◌, ◌/◌, ◌^◌, nat_le, ◌&&◌, Bool, List, [], ◌∷◌, length, map, is_some}
use Rattle.std.specs.List.{list_all}
use Rattle.linear_facts.specs.Words.{WholeTerm, Interval, Side, Lo, Hi, Added, Taken}
use Rattle.linear_facts.specs.Forms.{Linear, value, IsForm}
use Rattle.linear_facts.specs.Ranges.{AtomTable, AgreesWith}
use Rattle.linear_facts.specs.Sums.{AllAtMost, signed_term, with_term, with_split, gains, losses, ends, interval_of, met_or_own, form_interval, range_of_form}

-- a number of times what a form stands for
pub record Product : Type 0 where
  pub factor : ℕ
  pub form : Linear

-- the products added up, where atom a is the number v a
abbrev pub total_of : (ℕ → ℕ) → List Product → ℕ
total_of v [] = 0
total_of v (m ∷ ms) = m.factor * value v m.form + total_of v ms

-- a sum in whole numbers: `plus - minus` and the terms
pub record WholeSum : Type 0 where
  pub plus : ℕ
  pub minus : ℕ
  pub terms : List WholeTerm

-- `count` terms at most, and no coefficient and no number above its bound
pub record IsBounded (count coefficient number : ℕ) (sum : WholeSum) : Type 0 where
  pub few : length sum.terms ≤ count
  pub small : AllAtMost coefficient sum.terms
  pub plus : sum.plus ≤ number
  pub minus : sum.minus ≤ number

-- k times a term, added or taken away
abbrev pub multiple_term : Side → ℕ → WholeTerm → WholeTerm
multiple_term Added k t = record { atom = t.atom; plus = k * t.plus; minus = k * t.minus }
multiple_term Taken k t = record { atom = t.atom; plus = k * t.minus; minus = k * t.plus }

-- k times `plus - minus`, added or taken away
abbrev pub with_number : Side → ℕ → ℕ → ℕ → WholeSum → WholeSum
with_number Added k plus minus sum =
    record sum { plus = sum.plus + k * plus; minus = sum.minus + k * minus }
with_number Taken k plus minus sum =
    record sum { plus = sum.plus + k * minus; minus = sum.minus + k * plus }

-- the terms so far and k times the others
unfoldable pub with_multiples : Side → ℕ → List WholeTerm → List WholeTerm → List WholeTerm
with_multiples side k so_far [] = so_far
with_multiples side k so_far (t ∷ ts) =
    with_multiples side k (with_term so_far (multiple_term side k t)) ts

-- the multiple of 2^32 by which the form's range was found, with 2^112 added
unfoldable pub base_of : AtomTable → Linear → ℕ
base_of table f = (form_interval table f).lo / 2 ^ 32 * 2 ^ 32

-- the sum with a product added or taken away
unfoldable pub with_product : AtomTable → Side → WholeSum → Product → WholeSum
with_product table side sum m =
    let base = base_of table m.form in
    with_number side m.factor (m.form.constant + (2 ^ 112 - base)) (base - 2 ^ 112)
    record sum { terms = with_multiples side m.factor sum.terms (map signed_term m.form.terms) }

-- the sum with products added or taken away
unfoldable pub with_products : AtomTable → Side → WholeSum → List Product → WholeSum
with_products table side sum [] = sum
with_products table side sum (m ∷ ms) = with_products table side (with_product table side sum m) ms

-- each form has a range
abbrev pub have_ranges : AtomTable → List Product → Bool
have_ranges table ms = list_all (λ m. is_some (range_of_form table m.form)) ms

-- the lower bound of the sum is at least 0
unfoldable pub is_positive : AtomTable → WholeSum → Bool
is_positive table sum =
    nat_le (sum.minus + losses (ends table Hi) sum.terms)
    (sum.plus + gains (ends table Lo) sum.terms)

-- each product is of a form with at most eight terms
abbrev pub AreForms : List Product → Type 0
AreForms [] = Unit {0}
AreForms (m ∷ ms) = IsForm 8 m.form × AreForms ms

-- the difference of a number with products and another one with others
unfoldable pub difference_of : AtomTable → ℕ → List Product → ℕ → List Product → WholeSum
difference_of table more more_of less less_of =
    with_products table Taken
    (with_products table Added record { plus = more; minus = less; terms = [] } more_of) less_of

-- a number and products are at least another number and products, by the lower bound of
-- their difference
unfoldable pub is_at_least_of : AtomTable → ℕ → List Product → ℕ → List Product → Bool
is_at_least_of table more more_of less less_of =
    have_ranges table more_of && have_ranges table less_of
    && is_positive table (difference_of table more more_of less less_of)

-- the interval of a sum, met with the one after each split atom is replaced by the sum of its two
-- parts, all at once
unfoldable pub sum_interval : AtomTable → WholeSum → Interval
sum_interval table sum =
    met_or_own (interval_of table sum.plus sum.minus sum.terms)
    (interval_of table sum.plus sum.minus (with_split table [] sum.terms))

abbrev pub once : Linear → List Product
once f = record { factor = 1; form = f } ∷ []

-- one form is at least another one, by the lower bound of their difference
unfoldable pub is_not_less_of : AtomTable → Linear → Linear → Bool
is_not_less_of table f g =
    have_ranges table (once f) && have_ranges table (once g)
    && nat_le (2 ^ 112) (sum_interval table (difference_of table 0 (once f) 0 (once g))).lo

-- What is shown to be not less is so, wherever the atoms are as the table says.
abbrev pub OrdersHold : Type 0
OrdersHold =
    (table : AtomTable) (v : ℕ → ℕ) (f g : Linear) → AgreesWith table v → IsForm 8 f → IsForm 8 g
    → is_not_less_of table f g ≡ true → value v g ≤ value v f
