-- Ranges of numbers, and what is known of atoms.
use Rattle.std.specs.Prelude.{ℕ, ◌≡◌, ◌+◌, ◌^◌, ◌<◌, ◌≤◌, ◌==◌, nat_le, min, max, if◌then◌else◌, List, Option, Some, None, slice_index_or}
use Rattle.linear_facts.specs.Words.{Atom, Range, Split, End, Change, Lo, Hi}

-- n lies in the range
abbrev pub IsIn : Range → ℕ → Type 0
IsIn r n = (r.lo ≤ n) × (n ≤ r.hi)

-- the lower or the upper end
abbrev pub end_of : End → Range → ℕ
end_of Lo r = r.lo
end_of Hi r = r.hi

-- the numbers in both ranges
abbrev pub meet_of : Range → Range → Option Range
meet_of r s =
    if nat_le (max r.lo s.lo) (min r.hi s.hi)
    then Some record { lo = max r.lo s.lo; hi = min r.hi s.hi }
    else None

-- atoms by their numbers, and up to two ranges in place of theirs
pub record AtomTable : Type 0 where
  pub atoms : List Atom
  pub first : Option Change
  pub second : Option Change

-- an atom with nothing known of it
abbrev pub unknown_atom : Atom
unknown_atom = record { range = record { lo = 0; hi = 4294967295 }; split = None }

-- what the list says of an atom
unfoldable pub atom_at : AtomTable → ℕ → Atom
atom_at table a = slice_index_or table.atoms a unknown_atom

-- the change's range where it is for this atom, else the other
abbrev pub changed_or : Option Change → ℕ → Range → Range
changed_or None a r = r
changed_or (Some c) a r = if c.atom == a then c.range else r

-- the range of an atom: the one that stands in place of its own, else its own
unfoldable pub range_at : AtomTable → ℕ → Range
range_at table a = changed_or table.first a (changed_or table.second a (atom_at table a).range)

-- the two atoms whose sum an atom is, if it was split
unfoldable pub split_at : AtomTable → ℕ → Option Split
split_at table a = (atom_at table a).split

-- the atoms' numbers are as the table says: each fits 32 bits and its range, and one that was split
-- is the sum of its parts
pub record AgreesWith (table : AtomTable) (v : ℕ → ℕ) : Type 0 where
  pub fits : (a : ℕ) → v a < 2 ^ 32
  pub in_range : (a : ℕ) → IsIn (range_at table a) (v a)
  pub is_sum : (a : ℕ) (s : Split) → split_at table a ≡ Some s → v a ≡ v s.first + v s.second
