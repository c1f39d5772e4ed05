-- What a store does not change: who may do what at an address, and each byte that it does not write.
use Rattle.std.proofs.Common.{◌≡◌, ◌≢◌, ◌⊎◌, inl, inr, ℕ, zero, suc, ◌+◌, ◌-◌, ◌<◌, ◌≤◌, Bool, true, false, ◌&&◌, cond, ltb, leb, List, [], ◌∷◌, length, map, find, Some, None, unwrap_or, slice_index, arith, sym, ap, refl, ◌∙◌, length-set}
use Rattle.std.specs.List.{list_any, list_all, range_with_len}
use Rattle.std.specs.Option.{option_map}
use Rattle.std.proofs.lemmas.Bool.{and_parts, cases_lt}
use Rattle.std.proofs.lemmas.Bool.Decides.{nat_tests}
use Rattle.std.proofs.lemmas.List.{get_or-set_other}
use Rattle.region_mem.specs.Words.{Right, Read, Write, Fetch}
use Rattle.region_mem.specs.Areas.{Area, holds, has_right, is_open, is_open_from, byte_at, bytes_of, number_of, number_at, with_byte, with_bytes, with_number}
use Rattle.region_mem.specs.Memory.{Memory, byte_of, is_permitted, store_of, fetch_of}
use Rattle.region_mem.specs.Laws.{Extent, extent_of, IsCodeSafe, StoresKeepCode, StoresKeepUnwritable}
use Rattle.region_mem.specs.ExtentLemmas.{stores_keep_extents}
use Rattle.region_mem.specs.PartLemmas.{length_bytes}
use Rattle.region_mem.specs.WriteLemmas.{written}

-- Who may do what at an address follows from where the areas lie and from their rights.
abbrev right_in : Right → Extent → Bool
right_in Read e = e.read
right_in Write e = e.write
right_in Fetch e = e.fetch

abbrev open_in : Right → ℕ → Extent → Bool
open_in right x e = leb e.first x && ltb x (e.first + e.size) && right_in right e

right_by : (right : Right) (area : Area) → has_right right area ≡ right_in right (extent_of area)
unfolding has_right extent_of
right_by Read area = refl
right_by Write area = refl
right_by Fetch area = refl

open_by : (right : Right) (x : ℕ) (areas : List Area) → is_open right areas x ≡ list_any (open_in right x) (map extent_of areas)
unfolding is_open holds extent_of
open_by right x [] = refl
open_by right x (area ∷ areas) = rw (right_by right area, open_by right x areas) refl

pub open_kept : (right : Right) (x : ℕ) (areas others : List Area) → map extent_of areas ≡ map extent_of others → is_open right areas x ≡ is_open right others x
open_kept right x areas others same =
    open_by right x areas ∙ (ap (list_any (open_in right x)) same ∙ sym (open_by right x others))

all_kept : (right : Right) (from n : ℕ) (areas others : List Area) → map extent_of areas ≡ map extent_of others →
    list_all (is_open right areas) (range_with_len from n) ≡ list_all (is_open right others) (range_with_len from n)
all_kept right from zero areas others same = refl
all_kept right from (suc n) areas others same = rw (open_kept right from areas others same, all_kept right (from + 1) n areas others same) refl

pub permitted_kept : (right : Right) (from n : ℕ) (areas others : List Area) → map extent_of areas ≡ map extent_of others →
    is_open_from right from n areas ≡ is_open_from right from n others
unfolding is_open_from
permitted_kept right from n areas others same = rw (all_kept right from n areas others same) refl

-- A byte is kept by a write to another address,
abbrev IsOther : ℕ → ℕ → Type 0
IsOther x a = (x < a) ⊎ (a < x)

unfoldable pub read : ℕ → Area → ℕ
read x area = slice_index area.bytes (x - area.first)

other_place : (x a : ℕ) (area : Area) → IsOther x a → holds a area ≡ true → holds x area ≡ true → x - area.first ≢ a - area.first
unfolding holds
other_place x a area other here there same =
    let low : area.first ≤ a = grind (arith, nat_tests) in
    let from : area.first ≤ x = grind (arith, nat_tests) in
    elim other [
      | inl lt ↦ omega arith
      | inr lt ↦ omega arith
    ]

holds_written : (x a byte : ℕ) (area : Area) → holds x (written a byte area) ≡ holds x area
unfolding holds
holds_written x a byte area = rw (length-set area.bytes (a - area.first) byte) refl

written_step : (x a byte : ℕ) (area : Area) (areas : List Area) (b : Bool) → b ≡ holds x area → IsOther x a → holds a area ≡ true →
    option_map (read x) (cond b (Some (written a byte area)) (find (holds x) areas)) ≡ option_map (read x) (cond b (Some area) (find (holds x) areas))
unfolding read
written_step x a byte area areas true is other here =
    ap Some (get_or-set_other area.bytes (a - area.first) (x - area.first) byte 0 (other_place x a area other here (sym is)))
written_step x a byte area areas false is other here = refl

past_step : (x : ℕ) (area : Area) (areas others : List Area) (b : Bool) → option_map (read x) (find (holds x) areas) ≡ option_map (read x) (find (holds x) others) →
    option_map (read x) (cond b (Some area) (find (holds x) areas)) ≡ option_map (read x) (cond b (Some area) (find (holds x) others))
past_step x area areas others true rest = refl
past_step x area areas others false rest = rest

byte_step : (x a byte : ℕ) (area : Area) (areas : List Area) (b : Bool) → b ≡ holds a area → IsOther x a →
    option_map (read x) (find (holds x) (with_byte a byte areas)) ≡ option_map (read x) (find (holds x) areas) →
    option_map (read x) (find (holds x) (cond b (written a byte area ∷ areas) (area ∷ with_byte a byte areas))) ≡ option_map (read x) (find (holds x) (area ∷ areas))
byte_step x a byte area areas true is other rest =
    rw (holds_written x a byte area) (written_step x a byte area areas (holds x area) refl other (sym is))
byte_step x a byte area areas false is other rest = past_step x area (with_byte a byte areas) areas (holds x area) rest

byte_found : (x a byte : ℕ) (areas : List Area) → IsOther x a →
    option_map (read x) (find (holds x) (with_byte a byte areas)) ≡ option_map (read x) (find (holds x) areas)
unfolding with_byte
byte_found x a byte [] other = refl
byte_found x a byte (area ∷ areas) other = byte_step x a byte area areas (holds a area) refl other (byte_found x a byte areas other)

byte_kept : (x a byte : ℕ) (areas : List Area) → IsOther x a → byte_at x (with_byte a byte areas) ≡ byte_at x areas
unfolding byte_at read
byte_kept x a byte areas other = byte_found x a byte areas other

-- and by writes past it or before it.
abbrev IsOutside : ℕ → ℕ → ℕ → Type 0
IsOutside x a n = (x < a) ⊎ (a + n ≤ x)

bytes_kept : (x a : ℕ) (bytes : List ℕ) (areas : List Area) → IsOutside x a (length bytes) → byte_at x (with_bytes a bytes areas) ≡ byte_at x areas
unfolding with_bytes
bytes_kept x a [] areas outside = refl
bytes_kept x a (byte ∷ bytes) areas (inl lt) =
    bytes_kept x (a + 1) bytes (with_byte a byte areas) (inl (omega arith)) ∙ byte_kept x a byte areas (inl lt)
bytes_kept x a (byte ∷ bytes) areas (inr le) =
    bytes_kept x (a + 1) bytes (with_byte a byte areas) (inr (omega arith)) ∙ byte_kept x a byte areas (inr (omega arith))

pub number_kept : (x a n value : ℕ) (areas : List Area) → IsOutside x a n → byte_at x (with_number a n value areas) ≡ byte_at x areas
unfolding with_number
number_kept x a n value areas outside = bytes_kept x a (bytes_of n value) areas (rw (length_bytes n value) outside)

-- Each byte of a store may be written, so none of them may be fetched.
pub open_each : (right : Right) (from n k : ℕ) (areas : List Area) → list_all (is_open right areas) (range_with_len from n) ≡ true → k < n → is_open right areas (from + k) ≡ true
open_each right from zero k areas all below = absurd (omega arith)
open_each right from (suc n) zero areas all below =
    let same : from + 0 ≡ from = omega arith in
    rw same (and_parts _ _ all).0
open_each right from (suc n) (suc k) areas all below =
    let same : from + suc k ≡ (from + 1) + k = omega arith in
    rw same (open_each right (from + 1) n k areas (and_parts _ _ all).1 (omega arith))

write_outside : (x a n : ℕ) (areas : List Area) → list_all (is_open Write areas) (range_with_len a n) ≡ true →
    is_open Write areas x ≡ false → IsOutside x a n
write_outside x a n areas all shut =
    elim (cases_lt x a) [
      | inl lt ↦ inl lt
      | inr ge ↦ elim (cases_lt x (a + n)) [
        | inl lt ↦
            let at : a + (x - a) ≡ x = omega arith in
            let may : is_open Write areas x ≡ true = rw (← at) (open_each Write a n (x - a) areas all (omega arith)) in
            absurd (cc (may, shut))
        | inr le ↦ inr le
      ]
    ]

fetch_outside : (x a n : ℕ) (memory : Memory) → IsCodeSafe memory → list_all (is_open Write memory.areas) (range_with_len a n) ≡ true →
    is_open Fetch memory.areas x ≡ true → IsOutside x a n
fetch_outside x a n memory safe all fetched = write_outside x a n memory.areas all (safe x fetched)

-- So what is fetched is kept.
fetched_kept : (from k a n value : ℕ) (memory : Memory) → IsCodeSafe memory → list_all (is_open Write memory.areas) (range_with_len a n) ≡ true →
    list_all (is_open Fetch memory.areas) (range_with_len from k) ≡ true →
    map (λ at. unwrap_or (byte_at at (with_number a n value memory.areas)) 0) (range_with_len from k) ≡ map (λ at. unwrap_or (byte_at at memory.areas) 0) (range_with_len from k)
fetched_kept from zero a n value memory safe all fetched = refl
fetched_kept from (suc k) a n value memory safe all fetched =
    let both = and_parts _ _ fetched in
    rw (number_kept from a n value memory.areas (fetch_outside from a n memory safe all both.0), fetched_kept (from + 1) k a n value memory safe all both.1) refl

writes_all : (a n : ℕ) (areas : List Area) → is_open_from Write a n areas ≡ true → list_all (is_open Write areas) (range_with_len a n) ≡ true
unfolding is_open_from
writes_all a n areas h = (and_parts _ _ h).1

fetch_step : (pc a n value : ℕ) (memory : Memory) (b : Bool) → b ≡ is_open_from Fetch pc 4 memory.areas → IsCodeSafe memory →
    list_all (is_open Write memory.areas) (range_with_len a n) ≡ true →
    cond b (Some (number_at pc 4 (with_number a n value memory.areas))) None ≡ cond b (Some (number_at pc 4 memory.areas)) None
unfolding is_open_from number_at
fetch_step pc a n value memory true is safe all =
    ap (λ bytes. Some (number_of bytes)) (fetched_kept pc 4 a n value memory safe all (and_parts _ _ (sym is)).1)
fetch_step pc a n value memory false is safe all = refl

stored_areas : (a n value : ℕ) (memory stored : Memory) (b : Bool) → b ≡ is_permitted Write a n memory →
    cond b (Some (record memory { areas = with_number a n value memory.areas })) None ≡ Some stored →
    (is_permitted Write a n memory ≡ true) × (with_number a n value memory.areas ≡ stored.areas)
stored_areas a n value memory stored false is e = absurd (cc)
stored_areas a n value memory stored true is e =
    let same : record memory { areas = with_number a n value memory.areas } ≡ stored = cc in
    (sym is, ap (λ (m : Memory). m.areas) same)

pub stored_is : (a n value : ℕ) (memory stored : Memory) → store_of a n value memory ≡ Some stored →
    (is_permitted Write a n memory ≡ true) × (with_number a n value memory.areas ≡ stored.areas)
unfolding store_of
stored_is a n value memory stored e = stored_areas a n value memory stored (is_permitted Write a n memory) refl e

fetch_kept : (pc a n value : ℕ) (memory stored : Memory) → IsCodeSafe memory → is_permitted Write a n memory ≡ true →
    with_number a n value memory.areas ≡ stored.areas → map extent_of stored.areas ≡ map extent_of memory.areas → fetch_of pc stored ≡ fetch_of pc memory
unfolding fetch_of is_permitted
fetch_kept pc a n value memory stored safe permitted same extents =
    rw (permitted_kept Fetch pc 4 stored.areas memory.areas extents, ← same)
    (fetch_step pc a n value memory (is_open_from Fetch pc 4 memory.areas) refl safe (writes_all a n memory.areas permitted))

pub stores_keep_code : StoresKeepCode
stores_keep_code address n value memory stored safe e =
    let extents = (stores_keep_extents address n value memory stored e).0 in
    let is = stored_is address n value memory stored e in (
      (λ x may. open_kept Write x stored.areas memory.areas extents ∙ safe x (sym (open_kept Fetch x stored.areas memory.areas extents) ∙ may)),
      (λ pc. fetch_kept pc address n value memory stored safe is.0 is.1 extents),
    )

pub stores_keep_unwritable : StoresKeepUnwritable
unfolding byte_of is_permitted
stores_keep_unwritable address n value x memory stored e shut =
    let is = stored_is address n value memory stored e in
    rw (← is.1) (number_kept x address n value memory.areas (write_outside x address n memory.areas (writes_all address n memory.areas is.0) shut))
