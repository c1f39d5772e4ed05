-- Areas of memory, as a list in the order of their first addresses: the byte at an address,
-- what an access may do, and what a write leaves. An address is a number without limit here, so
-- that none wraps.
use Rattle.std.specs.Prelude.{◌≡◌, ℕ, true, false, ◌+◌, ◌-◌, ◌^◌, ◌≤◌, Bool, ◌&&◌, nat_le, nat_lt, List, [], ◌∷◌, ◌++◌, length, take, drop, map, find, Option, unwrap_or, slice_index, slice_set, if◌then◌else◌}
use Rattle.std.specs.List.Sorted.{IsPartitionPoint}
use Rattle.std.specs.List.{list_any, list_all, range_with_len}
use Rattle.std.specs.Option.{option_map}
use Rattle.byteorder.specs.Endian.{little_number, little_bytes}
use Rattle.region_mem.specs.Words.{Right, Read, Write, Fetch}

-- bytes from an address on, and what may be done with them
pub record Area : Type 0 where
  pub first : ℕ
  pub bytes : List ℕ
  pub read : Bool
  pub write : Bool
  pub fetch : Bool

-- an area without a byte
unfoldable pub nothing : Area
nothing = record { first = 0; bytes = []; read = false; write = false; fetch = false }

-- Each area begins where the one before it has ended, or later: they stand in the order of their
-- first addresses, and no address lies in two of them.
unfoldable pub AreInOrder : ℕ → List Area → Type 0
AreInOrder from [] = Unit {0}
AreInOrder from (area ∷ areas) =
    (from ≤ area.first) × AreInOrder (area.first + length area.bytes) areas

-- No area passes the last address.
unfoldable pub AreInside : List Area → Type 0
AreInside [] = Unit {0}
AreInside (area ∷ areas) = (area.first + length area.bytes ≤ 2 ^ 32) × AreInside areas

-- how the areas of a memory lie
abbrev pub ArePlaced : List Area → Type 0
ArePlaced areas = AreInOrder 0 areas × AreInside areas

-- So many areas, the first ones, begin at the address or below it.
abbrev pub IsCount : ℕ → List Area → ℕ → Type 0
IsCount address areas count =
    IsPartitionPoint (λ area. nat_le area.first address ≡ true)
    (λ area. nat_le area.first address ≡ false) areas count

-- The byte at this address is the area's.
unfoldable pub holds : ℕ → Area → Bool
holds address area = nat_le area.first address && nat_lt address (area.first + length area.bytes)

-- All n bytes from an address on are the area's.
unfoldable pub spans : ℕ → ℕ → Area → Bool
spans address n area =
    nat_le area.first address && nat_le (address + n) (area.first + length area.bytes)

unfoldable pub has_right : Right → Area → Bool
has_right Read area = area.read
has_right Write area = area.write
has_right Fetch area = area.fetch

-- All n bytes from an address on are the area's, which has the right.
unfoldable pub admits : Right → ℕ → ℕ → Area → Bool
admits right address n area = spans address n area && has_right right area

-- The byte at this address lies in an area with the right.
unfoldable pub is_open : Right → List Area → ℕ → Bool
is_open right areas address = list_any (λ area. holds address area && has_right right area) areas

-- An access is permitted where each of its bytes lies in an area with the right, and none past
-- the last address.
unfoldable pub is_open_from : Right → ℕ → ℕ → List Area → Bool
is_open_from right address size areas =
    nat_le (address + size) (2 ^ 32) && list_all (is_open right areas) (range_with_len address size)

-- the byte at an address, where an area holds it
unfoldable pub byte_at : ℕ → List Area → Option ℕ
byte_at address areas =
    option_map (λ area. slice_index area.bytes (address - area.first)) (find (holds address) areas)

-- the number with these bytes, the lowest first
unfoldable pub number_of : List ℕ → ℕ
number_of bytes = little_number (length bytes) bytes

-- the n lowest bytes of a number, the lowest first
unfoldable pub bytes_of : ℕ → ℕ → List ℕ
bytes_of n value = little_bytes n value

-- the number in the n bytes from an address on
unfoldable pub number_at : ℕ → ℕ → List Area → ℕ
number_at address n areas =
    number_of (map (λ at. unwrap_or (byte_at at areas) 0) (range_with_len address n))

-- the areas with this byte at an address
unfoldable pub with_byte : ℕ → ℕ → List Area → List Area
with_byte address byte [] = []
with_byte address byte (area ∷ areas) =
    if holds address area
    then record area { bytes = slice_set area.bytes (address - area.first) byte } ∷ areas
    else area ∷ with_byte address byte areas

-- the areas with these bytes from an address on, each in the area that holds its place
unfoldable pub with_bytes : ℕ → List ℕ → List Area → List Area
with_bytes address [] areas = areas
with_bytes address (byte ∷ bytes) areas =
    with_bytes (address + 1) bytes (with_byte address byte areas)

-- the areas with the n lowest bytes of a number from an address on
unfoldable pub with_number : ℕ → ℕ → ℕ → List Area → List Area
with_number address n value areas = with_bytes address (bytes_of n value) areas

-- the number in the n bytes from an address on that an area has
unfoldable pub number_in : ℕ → ℕ → Area → ℕ
number_in address n area =
    number_of (map (λ at. slice_index area.bytes (at - area.first)) (range_with_len address n))

-- the n bytes from an address on that an area has
unfoldable pub part_of : ℕ → ℕ → Area → List ℕ
part_of address n area = take n (drop (address - area.first) area.bytes)

-- the n bytes from an address on, where one area has them all, and the right
unfoldable pub window_in : Right → ℕ → ℕ → List Area → Option (List ℕ)
window_in right address n areas =
    option_map (part_of address n) (find (admits right address n) areas)

-- the area with these bytes from an address on, in the place of those that it had there
unfoldable pub part_into : ℕ → List ℕ → Area → Area
part_into address bytes area =
    let at = address - area.first in
    record area { bytes = take at area.bytes ++ bytes ++ drop (at + length bytes) area.bytes }

-- the areas with these bytes from an address on, in the one area that has room for them all, and
-- the right to write
unfoldable pub with_part : ℕ → List ℕ → List Area → List Area
with_part address bytes [] = []
with_part address bytes (area ∷ areas) =
    if admits Write address (length bytes) area
    then part_into address bytes area ∷ areas
    else area ∷ with_part address bytes areas

-- the area with these bytes over as many as it has from an address on, and none past its end
unfoldable pub overlaid : ℕ → List ℕ → List ℕ → List ℕ
overlaid at old bytes =
    take (length old) (take at old ++ (bytes ++ drop (length bytes) (drop at old)))

abbrev pub overlaid_area : ℕ → Area → List ℕ → Area
overlaid_area address area bytes =
    record area { bytes = overlaid (address - area.first) area.bytes bytes }
