-- What an executable file becomes in memory: its entry, its segments, its certificate.
use Rattle.std.specs.Prelude.{◌≡◌, ℕ, ◌+◌, ◌-◌, ◌%◌, ◌<◌, ◌≤◌, ◌⊎◌, Bool, true, false, ◌&&◌, nat_lt, nat_le, List, [], ◌∷◌, length, find, All, Option}
use Rattle.std.specs.List.{AllByRecursion, sum_by, list_any}
use Rattle.std.specs.Option.{option_map}
use Rattle.byteorder.specs.Endian.{little_from}
use Rattle.elf_image.specs.declared.segment.Rights.{Rights}
use Rattle.elf_image.specs.declared.layout.TheConstants.{LOW_SEGMENTS, LOW_SEGMENTS_END, HIGH_SEGMENTS, HIGH_SEGMENTS_END, MAX_SEGMENTS, MAX_MEMORY_SIZE}

-- A segment: the address of its first byte, the bytes that come from the file, and how many bytes
-- it has in memory. Those past the file's bytes are 0.
pub record SegmentView : Type 0 where
  pub address : ℕ
  pub bytes : List ℕ
  pub memory_size : ℕ
  pub read : Bool
  pub write : Bool
  pub execute : Bool

-- the segment with these bytes, this size in memory and these rights at an address
abbrev pub segment_with : ℕ → List ℕ → ℕ → Rights → SegmentView
segment_with address bytes memory_size rights = record {
  address = address;
  bytes = bytes;
  memory_size = memory_size;
  read = rights.read;
  write = rights.write;
  execute = rights.execute;
}

-- What a file becomes in memory.
pub record ImageView : Type 0 where
  pub entry : ℕ
  pub segments : List SegmentView
  pub certificate : Option (List ℕ)

-- size bytes from address on lie from low on and below high
abbrev pub IsBetween : ℕ → ℕ → ℕ → ℕ → Type 0
IsBetween low high address size = (low ≤ address) × (address + size ≤ high)

-- size bytes from address on lie in one of the two parts of memory that are for segments
abbrev pub IsInPlace : ℕ → ℕ → Type 0
IsInPlace address size =
    IsBetween LOW_SEGMENTS LOW_SEGMENTS_END address size
    ⊎ IsBetween HIGH_SEGMENTS HIGH_SEGMENTS_END address size

-- what is true of each segment by itself
pub record IsSegment (s : SegmentView) : Type 0 where
  pub in_place : IsInPlace s.address s.memory_size
  pub not_empty : 0 < s.memory_size
  pub file_part : length s.bytes ≤ s.memory_size
  pub are_bytes : All (λ byte. byte < 256) s.bytes
  pub write_or_execute : s.write ≡ true → s.execute ≡ false

-- no address lies in both
abbrev pub IsApart : SegmentView → SegmentView → Type 0
IsApart s t = (s.address + s.memory_size ≤ t.address) ⊎ (t.address + t.memory_size ≤ s.address)

-- no address lies in two of the segments
abbrev pub AreApart : List SegmentView → Type 0
AreApart [] = Unit {0}
AreApart (s ∷ ss) = AllByRecursion (IsApart s) ss × AreApart ss

-- the address lies in the segment
abbrev pub holds_address : ℕ → SegmentView → Bool
holds_address address s = nat_le s.address address && nat_lt address (s.address + s.memory_size)

-- the segment may be executed, and the four bytes from the address on lie in it
abbrev pub holds_code : ℕ → SegmentView → Bool
holds_code address s =
    s.execute && nat_le s.address address && nat_le (address + 4) (s.address + s.memory_size)

-- what is true of each image
pub record IsImage (image : ImageView) : Type 0 where
  pub each : AllByRecursion IsSegment image.segments
  pub apart : AreApart image.segments
  pub count : length image.segments ≤ MAX_SEGMENTS
  pub size : sum_by (λ s. s.memory_size) image.segments ≤ MAX_MEMORY_SIZE
  pub entry_aligned : image.entry % 4 ≡ 0
  pub entry_is_code : list_any (holds_code image.entry) image.segments ≡ true

-- the word in the four bytes from an address of a segment on, the lowest byte first: a byte past
-- those of the file is 0
unfoldable pub word_in : ℕ → SegmentView → ℕ
word_in address s = little_from (address - s.address) 4 s.bytes

-- the word of code at an address, where its four bytes lie in one segment that may be executed
unfoldable pub code_at : ℕ → ImageView → Option ℕ
code_at address image = option_map (word_in address) (find (holds_code address) image.segments)
