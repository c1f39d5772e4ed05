-- Sums in whole numbers, not reduced: a term is `plus - minus` times an atom. Natural numbers stand
-- for whole ones: both ends of an interval are given with 2^112 added.
use Rattle.std.specs.Prelude.{ℕ, ◌+◌, ◌-◌, ◌*◌, ◌/◌, ◌%◌, ◌^◌, ◌≤◌, ◌==◌, nat_lt, nat_le, min, max, not, if◌then◌else◌, List, [], ◌∷◌, ◌++◌, map, position, count_by, slice_set, slice_index_or, Option, Some, None}
use Rattle.linear_facts.specs.Words.{Term, Range, Split, End, WholeTerm, Interval, Side, Lo, Hi, Added, Taken}
use Rattle.linear_facts.specs.Forms.{Linear}
use Rattle.linear_facts.specs.Ranges.{AtomTable, range_at, split_at, end_of}

-- no coefficient has a part above n
abbrev pub AllAtMost : ℕ → List WholeTerm → Type 0
AllAtMost n [] = Unit {0}
AllAtMost n (t ∷ ts) = (t.plus ≤ n) × (t.minus ≤ n) × AllAtMost n ts

-- a term with its coefficient as a signed number of 32 bits
unfoldable pub signed_term : Term → WholeTerm
signed_term t =
    if nat_lt t.coefficient (2 ^ 31) then record { atom = t.atom; plus = t.coefficient; minus = 0 }
    else record { atom = t.atom; plus = 0; minus = 2 ^ 32 - t.coefficient }

-- two terms of one atom as one
abbrev pub joined : WholeTerm → WholeTerm → WholeTerm
joined t u = record { atom = t.atom; plus = t.plus + u.plus; minus = t.minus + u.minus }

abbrev pub with_term_at : Option ℕ → List WholeTerm → WholeTerm → List WholeTerm
with_term_at None ts t = ts ++ t ∷ []
with_term_at (Some i) ts t = slice_set ts i (joined (slice_index_or ts i t) t)

-- the terms with one more, which is added to the one of its atom where there is one
unfoldable pub with_term : List WholeTerm → WholeTerm → List WholeTerm
with_term ts t = with_term_at (position (λ u. u.atom == t.atom) ts) ts t

abbrev pub with_parts : Option Split → List WholeTerm → WholeTerm → List WholeTerm
with_parts None ts t = with_term ts t
with_parts (Some s) ts t =
    with_term (with_term ts record { atom = s.first; plus = t.plus; minus = t.minus })
    record { atom = s.second; plus = t.plus; minus = t.minus }

-- the terms so far, and the others with each split atom replaced by the sum of its two
-- parts, all at once
unfoldable pub with_split : AtomTable → List WholeTerm → List WholeTerm → List WholeTerm
with_split table so_far [] = so_far
with_split table so_far (t ∷ ts) = with_split table (with_parts (split_at table t.atom) so_far t) ts

-- how many terms are not 0
abbrev pub nonzero_count : List WholeTerm → ℕ
nonzero_count ts = count_by (λ t. not (t.plus == t.minus)) ts

-- how far a coefficient lies on this side of 0
abbrev pub share : Side → WholeTerm → ℕ
share Added t = t.plus - t.minus
share Taken t = t.minus - t.plus

-- what the terms with coefficients on this side of 0 come to, without their sign, where atom a is
-- r a
unfoldable pub shares : Side → (ℕ → ℕ) → List WholeTerm → ℕ
shares side r [] = 0
shares side r (t ∷ ts) = share side t * r t.atom + shares side r ts

-- what the terms with positive coefficients come to
abbrev pub gains : (ℕ → ℕ) → List WholeTerm → ℕ
gains r ts = shares Added r ts

-- what the terms with negative coefficients take away
abbrev pub losses : (ℕ → ℕ) → List WholeTerm → ℕ
losses r ts = shares Taken r ts

-- the atoms' lower or upper ends
abbrev pub ends : AtomTable → End → ℕ → ℕ
ends table end a = end_of end (range_at table a)

-- the interval of `plus - minus` and the terms, by interval arithmetic
unfoldable pub interval_of : AtomTable → ℕ → ℕ → List WholeTerm → Interval
interval_of table plus minus ts = record {
  lo = (2 ^ 112 + plus + gains (ends table Lo) ts) - (minus + losses (ends table Hi) ts);
  hi = (2 ^ 112 + plus + gains (ends table Hi) ts) - (minus + losses (ends table Lo) ts);
}

-- both ends are within 2^80 of 0
abbrev pub IsClose : Interval → Type 0
IsClose i =
    (2 ^ 112 ≤ i.lo + 2 ^ 80) × (i.lo ≤ 2 ^ 112 + 2 ^ 80)
    × (2 ^ 112 ≤ i.hi + 2 ^ 80) × (i.hi ≤ 2 ^ 112 + 2 ^ 80)

-- what lies in both intervals, or the first where they don't meet
unfoldable pub met_or_own : Interval → Interval → Interval
met_or_own own other =
    if nat_le (max own.lo other.lo) (min own.hi other.hi)
    then record { lo = max own.lo other.lo; hi = min own.hi other.hi } else own

-- the interval of a constant and its own terms, met with that of the split terms where these are at
-- most eight
unfoldable pub interval_by_both : AtomTable → ℕ → List WholeTerm → List WholeTerm → Interval
interval_by_both table constant own split =
    if nat_le (nonzero_count split) 8
    then met_or_own (interval_of table constant 0 own) (interval_of table constant 0 split)
    else interval_of table constant 0 own

-- the interval of a form's sum, each split atom replaced by its two parts for the second one
unfoldable pub form_interval : AtomTable → Linear → Interval
form_interval table f =
    let own = map signed_term f.terms in
    interval_by_both table f.constant own (with_split table [] own)

-- the interval less one multiple of 2^32, where that leaves numbers of 32 bits
unfoldable pub range_within : Interval → Option Range
range_within i =
    if i.lo / 2 ^ 32 == i.hi / 2 ^ 32 then Some record { lo = i.lo % 2 ^ 32; hi = i.hi % 2 ^ 32 }
    else None

-- the range of a form
unfoldable pub range_of_form : AtomTable → Linear → Option Range
range_of_form table f = range_within (form_interval table f)
