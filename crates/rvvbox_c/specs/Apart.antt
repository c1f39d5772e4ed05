-- Which arguments name bytes that are there, and apart from all others where they are put back.
use Rattle.std.specs.Prelude.{ℕ, ◌≡◌, ◌<◌, ◌+◌, ◌^◌, ◌==◌, ◌&&◌, ◌||◌, Bool, nat_lt, List, length, take, drop, slice_index_or, Option, None, Some, if◌then◌else◌}
use Rattle.std.specs.List.{list_any}
use Rattle.rvvbox_c.specs.Status.{at_place}
use Rattle.rvvbox_c.specs.declared.apart.Place.{Place}
use Rattle.rvvbox_c.specs.declared.status.Refusal.{Refusal}
use Rattle.rvvbox_c.specs.declared.status.Status.{Status, TheVariants.BadKind, TheVariants.BadRange, TheVariants.Overlap}

-- there are bytes
abbrev pub is_bytes : Place → Bool
is_bytes place = nat_lt 0 place.size && (place.kind == 2 || place.kind == 3)

-- they begin at NULL, or end beyond the end of memory
abbrev pub is_nowhere : Place → Bool
is_nowhere place =
    is_bytes place && (place.from == 0 || nat_lt (2 ^ 64) (place.from + place.size))

-- two have a byte in common: each begins before the other ends
abbrev pub do_meet : Place → Place → Bool
do_meet one other =
    is_bytes one && is_bytes other && nat_lt one.from (other.from + other.size)
    && nat_lt other.from (one.from + one.size)

abbrev pub meets_one : Place → List Place → Bool
meets_one place others = list_any (do_meet place) others

-- what is wrong with a place between those before it and those behind it
abbrev pub place_fault : Place → List Place → List Place → Option Status
place_fault place before behind =
    if nat_lt 3 place.kind then Some BadKind
    else (if is_nowhere place then Some BadRange
    else (if place.kind == 2 && (meets_one place before || meets_one place behind)
    then Some Overlap else None))

-- a place with nothing
abbrev pub no_place : Place
no_place = record { kind = 0; value = 0; from = 0; size = 0 }

-- the same of the place of this number
abbrev pub fault_at : List Place → ℕ → Option Status
fault_at places k =
    place_fault (slice_index_or places k no_place) (take k places) (drop (k + 1) places)

-- Nothing is wrong with any of them.
abbrev pub AreNamed : List Place → Type 0
AreNamed places = (k : ℕ) → k < length places → fault_at places k ≡ None

-- This is wrong at this place, and nothing before it.
pub record IsFirstFault (places : List Place) (fault : Status) (k : ℕ) : Type 0 where
  pub inside : k < length places
  pub there : fault_at places k ≡ Some fault
  pub before : (j : ℕ) → j < k → fault_at places j ≡ None

-- The refusal is that of the first place at which something is wrong.
abbrev pub IsToldOf : List Place → Refusal → Type 0
IsToldOf places refusal =
    (fault : Status) × (k : ℕ) × IsFirstFault places fault k × (refusal ≡ at_place fault k)
