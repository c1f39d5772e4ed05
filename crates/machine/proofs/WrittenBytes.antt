-- One store to two memories whose areas lie alike leaves the same bytes where it writes.
use Rattle.std.proofs.Common.{◌≡◌, ◌≢◌, ◌∙◌, ◌⊎◌, inl, inr, ℕ, zero, suc, ◌+◌, ◌-◌, ◌<◌, ◌≤◌, Bool, true, false, cond, List, [], ◌∷◌, length, map, set, slice_index, Some, None, ap, refl, sym, arith, length-set}
use Rattle.std.proofs.lemmas.Bool.{cases_lt}
use Rattle.std.proofs.lemmas.Bool.Decides.{nat_tests}
use Rattle.std.proofs.lemmas.List.{get_or-set_other, get_or-set_same}
use Rattle.std.specs.Int.{bytes_low_first}
use Rattle.region_mem.specs.Areas.{Area, byte_at, bytes_of, holds, with_byte, with_bytes, with_number}
use Rattle.region_mem.specs.Laws.{extent_of}
use Rattle.region_mem.specs.Memory.{Memory, byte_of, is_permitted, store_of}
use Rattle.region_mem.specs.declared.faults.Right.TheVariants.{Write}

-- the address is one of the n from an address on
abbrev pub IsInAccess : ℕ → ℕ → ℕ → Type 0
IsInAccess x address n = (address ≤ x) × (x < address + n)

-- One store to two memories whose areas lie alike leaves them the same, at each byte that it writes and at each byte that
-- was the same.
abbrev pub StoresWriteAlike : Type 0
StoresWriteAlike =
    (address n value x : ℕ) (p q s t : Memory) → map extent_of p.areas ≡ map extent_of q.areas
    → store_of address n value p ≡ Some s → store_of address n value q ≡ Some t
    → IsInAccess x address n ⊎ (byte_of x p ≡ byte_of x q) → byte_of x s ≡ byte_of x t

-- ---- a byte

-- the area with this byte at an address
abbrev written : ℕ → ℕ → Area → Area
written at byte area = record area { bytes = set area.bytes (at - area.first) byte }

held_written : (x at byte : ℕ) (area : Area) → holds x (written at byte area) ≡ holds x area
unfolding holds
held_written x at byte area = rw (length-set area.bytes (at - area.first) byte) refl

held_alike : (x : ℕ) (a b : Area) → extent_of a ≡ extent_of b → holds x a ≡ holds x b
unfolding holds extent_of
held_alike x a b same =
    let first : a.first ≡ b.first = ap (λ e. e.first) same in
    let size : length a.bytes ≡ length b.bytes = ap (λ e. e.size) same in
    rw (first, size) refl

byte_here : (x : ℕ) (area : Area) (areas : List Area) → holds x area ≡ true → byte_at x (area ∷ areas) ≡ Some (slice_index area.bytes (x - area.first))
unfolding byte_at
byte_here x area areas is = rw is refl

byte_past : (x : ℕ) (area : Area) (areas : List Area) → holds x area ≡ false → byte_at x (area ∷ areas) ≡ byte_at x areas
unfolding byte_at
byte_past x area areas is = rw is refl

-- what was written stands there
written_there : (x byte : ℕ) (area : Area) (areas : List Area) → holds x area ≡ true → byte_at x (written x byte area ∷ areas) ≡ Some byte
unfolding holds
written_there x byte area areas here =
    let low : area.first ≤ x = grind (arith, nat_tests) in
    let high : x < area.first + length area.bytes = grind (arith, nat_tests) in
    byte_here x (written x byte area) areas (held_written x x byte area ∙ here)
    ∙ ap Some (get_or-set_same area.bytes (x - area.first) byte 0 (omega (arith, low, high)))

here_step : (x byte : ℕ) (a b : Area) (xs ys : List Area) (t : Bool) → holds x a ≡ t → holds x b ≡ t
    → byte_at x (with_byte x byte xs) ≡ byte_at x (with_byte x byte ys)
    → byte_at x (cond t (written x byte a ∷ xs) (a ∷ with_byte x byte xs)) ≡ byte_at x (cond t (written x byte b ∷ ys) (b ∷ with_byte x byte ys))
here_step x byte a b xs ys true p q rest = written_there x byte a xs p ∙ sym (written_there x byte b ys q)
here_step x byte a b xs ys false p q rest = byte_past x a _ p ∙ (rest ∙ sym (byte_past x b _ q))

here_alike : (x byte : ℕ) (xs ys : List Area) → map extent_of xs ≡ map extent_of ys
    → byte_at x (with_byte x byte xs) ≡ byte_at x (with_byte x byte ys)
unfolding with_byte
here_alike x byte [] [] same = refl
here_alike x byte [] (b ∷ ys) same = absurd (cc same)
here_alike x byte (a ∷ xs) [] same = absurd (cc same)
here_alike x byte (a ∷ xs) (b ∷ ys) same =
    let heads : extent_of a ≡ extent_of b = cc same in
    let tails : map extent_of xs ≡ map extent_of ys = cc same in
    let held = held_alike x a b heads in
    rw (← held) (here_step x byte a b xs ys (holds x a) refl (sym held) (here_alike x byte xs ys tails))

-- and any other byte stays
abbrev IsOther : ℕ → ℕ → Type 0
IsOther x at = (x < at) ⊎ (at < x)

other_place : (x at : ℕ) (area : Area) → IsOther x at → holds at area ≡ true → holds x area ≡ true → x - area.first ≢ at - area.first
unfolding holds
other_place x at area other here there same =
    let low : area.first ≤ at = grind (arith, nat_tests) in
    let from : area.first ≤ x = grind (arith, nat_tests) in
    elim other [
      | inl lt ↦ omega arith
      | inr lt ↦ omega arith
    ]

written_other : (x at byte : ℕ) (area : Area) (areas : List Area) (t : Bool) → holds x area ≡ t → IsOther x at → holds at area ≡ true
    → byte_at x (written at byte area ∷ areas) ≡ byte_at x (area ∷ areas)
written_other x at byte area areas true is other here =
    byte_here x (written at byte area) areas (held_written x at byte area ∙ is)
    ∙ (ap Some (get_or-set_other area.bytes (at - area.first) (x - area.first) byte 0 (other_place x at area other here is))
    ∙ sym (byte_here x area areas is))
written_other x at byte area areas false is other here =
    byte_past x (written at byte area) areas (held_written x at byte area ∙ is) ∙ sym (byte_past x area areas is)

past_other : (x : ℕ) (area : Area) (areas others : List Area) (t : Bool) → holds x area ≡ t → byte_at x others ≡ byte_at x areas
    → byte_at x (area ∷ others) ≡ byte_at x (area ∷ areas)
past_other x area areas others true is rest = byte_here x area others is ∙ sym (byte_here x area areas is)
past_other x area areas others false is rest = byte_past x area others is ∙ (rest ∙ sym (byte_past x area areas is))

other_step : (x at byte : ℕ) (area : Area) (areas : List Area) (t : Bool) → holds at area ≡ t → IsOther x at
    → byte_at x (with_byte at byte areas) ≡ byte_at x areas
    → byte_at x (cond t (written at byte area ∷ areas) (area ∷ with_byte at byte areas)) ≡ byte_at x (area ∷ areas)
other_step x at byte area areas true is other rest = written_other x at byte area areas (holds x area) refl other is
other_step x at byte area areas false is other rest = past_other x area areas (with_byte at byte areas) (holds x area) refl rest

other_kept : (x at byte : ℕ) (areas : List Area) → IsOther x at → byte_at x (with_byte at byte areas) ≡ byte_at x areas
unfolding with_byte
other_kept x at byte [] other = refl
other_kept x at byte (area ∷ areas) other = other_step x at byte area areas (holds at area) refl other (other_kept x at byte areas other)

-- ---- a byte in two memories

other_alike : (x at byte : ℕ) (xs ys : List Area) → byte_at x xs ≡ byte_at x ys → IsOther x at
    → byte_at x (with_byte at byte xs) ≡ byte_at x (with_byte at byte ys)
other_alike x at byte xs ys alike other = other_kept x at byte xs other ∙ (alike ∙ sym (other_kept x at byte ys other))

byte_alike : (x at byte : ℕ) (xs ys : List Area) → map extent_of xs ≡ map extent_of ys → (x ≡ at) ⊎ (byte_at x xs ≡ byte_at x ys)
    → byte_at x (with_byte at byte xs) ≡ byte_at x (with_byte at byte ys)
byte_alike x at byte xs ys same (inl e) = rw e (here_alike at byte xs ys same)
byte_alike x at byte xs ys same (inr alike) =
    elim (cases_lt x at) [
      | inl below ↦ other_alike x at byte xs ys alike (inl below)
      | inr above ↦ elim (cases_lt at x) [
        | inl past ↦ other_alike x at byte xs ys alike (inr past)
        | inr not_past ↦ let e : x ≡ at = omega (arith, above, not_past) in rw e (here_alike at byte xs ys same)
      ]
    ]

extent_written : (at byte : ℕ) (area : Area) → extent_of (written at byte area) ≡ extent_of area
unfolding extent_of
extent_written at byte area = rw (length-set area.bytes (at - area.first) byte) refl

extents_step : (at byte : ℕ) (area : Area) (areas : List Area) (t : Bool) → map extent_of (with_byte at byte areas) ≡ map extent_of areas
    → map extent_of (cond t (written at byte area ∷ areas) (area ∷ with_byte at byte areas)) ≡ map extent_of (area ∷ areas)
extents_step at byte area areas true rest = ap (λ e. e ∷ map extent_of areas) (extent_written at byte area)
extents_step at byte area areas false rest = ap (λ es. extent_of area ∷ es) rest

extents_kept : (at byte : ℕ) (areas : List Area) → map extent_of (with_byte at byte areas) ≡ map extent_of areas
unfolding with_byte
extents_kept at byte [] = refl
extents_kept at byte (area ∷ areas) = extents_step at byte area areas (holds at area) (extents_kept at byte areas)

-- ---- a store

abbrev IsAlikeOr : ℕ → ℕ → ℕ → List Area → List Area → Type 0
IsAlikeOr x at n xs ys = IsInAccess x at n ⊎ (byte_at x xs ≡ byte_at x ys)

further : (x at byte : ℕ) (bytes : List ℕ) (xs ys : List Area) → map extent_of xs ≡ map extent_of ys
    → IsAlikeOr x at (length (byte ∷ bytes)) xs ys → IsAlikeOr x (at + 1) (length bytes) (with_byte at byte xs) (with_byte at byte ys)
further x at byte bytes xs ys same (inr before) = inr (byte_alike x at byte xs ys same (inr before))
further x at byte bytes xs ys same (inl (low, high)) =
    elim (cases_lt at x) [
      | inl past ↦ inl (omega (arith, past), omega (arith, high))
      | inr not_past ↦ inr (byte_alike x at byte xs ys same (inl (omega (arith, low, not_past))))
    ]

bytes_alike : (x at : ℕ) (bytes : List ℕ) (xs ys : List Area) → map extent_of xs ≡ map extent_of ys → IsAlikeOr x at (length bytes) xs ys
    → byte_at x (with_bytes at bytes xs) ≡ byte_at x (with_bytes at bytes ys)
unfolding with_bytes
bytes_alike x at [] xs ys same (inl (low, high)) = absurd (omega (arith, low, high))
bytes_alike x at [] xs ys same (inr alike) = alike
bytes_alike x at (byte ∷ bytes) xs ys same alike =
    let next : map extent_of (with_byte at byte xs) ≡ map extent_of (with_byte at byte ys) =
    extents_kept at byte xs ∙ (same ∙ sym (extents_kept at byte ys)) in
    bytes_alike x (at + 1) bytes (with_byte at byte xs) (with_byte at byte ys) next (further x at byte bytes xs ys same alike)

length_low : (i n value : ℕ) → length (bytes_low_first i n value) ≡ n
length_low i zero value = refl
length_low i (suc n) value = let rest = length_low (suc i) n value in omega (arith, rest)

length_bytes : (n value : ℕ) → length (bytes_of n value) ≡ n
unfolding bytes_of
length_bytes n value = length_low 0 n value

stored_areas : (address n value : ℕ) (memory stored : Memory) (t : Bool)
    → cond t (Some (record memory { areas = with_number address n value memory.areas })) None ≡ Some stored
    → with_number address n value memory.areas ≡ stored.areas
stored_areas address n value memory stored false e = absurd (cc e)
stored_areas address n value memory stored true e =
    let same : record memory { areas = with_number address n value memory.areas } ≡ stored = cc e in
    ap (λ (m : Memory). m.areas) same

stored_is : (address n value : ℕ) (memory stored : Memory) → store_of address n value memory ≡ Some stored
    → with_number address n value memory.areas ≡ stored.areas
unfolding store_of
stored_is address n value memory stored e = stored_areas address n value memory stored (is_permitted Write address n memory) e

numbers_alike : (address n value x : ℕ) (xs ys : List Area) → map extent_of xs ≡ map extent_of ys → IsAlikeOr x address n xs ys
    → byte_at x (with_number address n value xs) ≡ byte_at x (with_number address n value ys)
unfolding with_number
numbers_alike address n value x xs ys same alike =
    bytes_alike x address (bytes_of n value) xs ys same (rw (length_bytes n value) alike)

pub stores_write_alike : StoresWriteAlike
unfolding byte_of
stores_write_alike address n value x p q s t same p_is q_is alike =
    rw (← stored_is address n value p s p_is, ← stored_is address n value q t q_is)
    (numbers_alike address n value x p.areas q.areas same alike)
