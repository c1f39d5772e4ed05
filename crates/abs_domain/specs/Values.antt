-- What is known of a number, and what an instruction makes of the numbers that it reads.
use Rattle.std.specs.Prelude.{ℕ, ◌==◌, if◌then◌else◌, Option, Some, None}
use Rattle.abs_domain.specs.Words.{Range, Linear, meet_of}

-- a number as far as it is known: it is the form's value, and lies in the range
pub record ValueView : Type 0 where
  pub form : Linear
  pub range : Range

-- all numbers of 32 bits
abbrev pub full_range : Range
full_range = record { lo = 0; hi = 4294967295 }

-- one number
abbrev pub just : ℕ → Range
just n = record { lo = n; hi = n }

-- the numbers up to one
abbrev pub up_to : ℕ → Range
up_to n = record { lo = 0; hi = n }

-- the one number of a range, if it has just one
abbrev pub known_of : Range → Option ℕ
known_of r = if r.lo == r.hi then Some r.lo else None

-- the range, or all numbers
abbrev pub or_full : Option Range → Range
or_full None = full_range
or_full (Some r) = r

-- the range, or another one
abbrev pub or_own : Range → Option Range → Range
or_own own None = own
or_own own (Some r) = r

-- The range of a computed number, by interval arithmetic and by its form: what lies in both, the
-- interval where nothing does, and all numbers where there is neither.
unfoldable pub computed_range : Option Range → Option Range → Range
computed_range None form_range = or_full form_range
computed_range (Some interval) None = interval
computed_range (Some interval) (Some form_range) = or_own interval (meet_of interval form_range)
